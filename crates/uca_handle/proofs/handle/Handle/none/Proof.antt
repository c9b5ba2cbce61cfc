-- `none` owns nothing beside its allocator.
use Rattle.uca_handle.proofs.Steps.{List, [], ◌∷◌, ◌++◌, refl, sym, subst, None, Val, SProp, ent, emp, id⊢, ftrue, WpFn, ‵, raw, ◌⊛◌, ◌$◌, ◌∵◌, !, qed, keep, drop, split, fsplit, fjoin, suffices, join, done, no_more, and_then, returns, enter, alloc_all, pass_all, free_all, look_at, get, sets, agg, tables, yes, owns, null_ptr, ptr_val, Slot, types_at, plain, nothing, says, Stays, stay_dropped, walk_of, ends_at, Goes-dropped, handle_tells, proved_at, Z, LZ, ghosts}
use Rattle.std.proofs.Common.{lit<}
use types.Run.{lit}
use Rattle.uca_handle.proofs.Parts.{both, both_good, handled, owned_in}
use Rattle.uca_handle.specs.contracts.handle.Handle.none.{ended, clauses}
use Rattle.uca_handle.specs.contracts.handle.Handle.none.Key.{name as #self}
use Rattle.uca_handle.proofs.handle.Handle.none.Statement.{statement}
use Rattle.uca_handle.proofs.handle.Handle.none.Code as code

abbrev From : Slot 0
From = plain (λ _. Z)

abbrev hs : Stays ended.signature.params ended.kept
hs = (stay_dropped From yes, tt)

pub none_spec : {M : Type 1} → statement M
none_spec 𝓤 𝓛 𝓜 𝓡 wired =
    let H = 𝓛.H in let 𝓣 = tables 𝓤 H 𝓜 𝓡 𝓡.env in let c = clauses 𝓛 𝓜.mem 𝓡.returns in let fn = code.function in
    proved_at 𝓛 ended hs c 𝓜 𝓡 (Goes-dropped 𝓛 0 From yes (λ κs x f. refl), tt) #self fn (code.unfolded 𝓤 H 𝓜 𝓡 wired) (λ z are.
    let a = z.0.3.0 in let Post : Val → SProp 𝓤 = (walk_of 𝓛 ended hs c).post z in let Run : List Val → SProp 𝓤 = λ ws. WpFn 𝓤 H 𝓣.C 𝓣.Λ fn ws Post in
    qed 𝓛 ((‵ ftrue ⊛ ‵ (owns (types_at ended.signature.params z.0.0) z.0.3 z.0.4)) ∷ raw (emp 𝓤) ∷ []) ∵ split ! $ drop ! $ fsplit ! $
    handle_tells (handled Z LZ ghosts) ! a z.0.4.0 (λ h ws fits.
    suffices ! (Run (h ∷ [])) (subst (λ (us : List Val). ent 𝓤 (Run (h ∷ [])) (Run us)) (sym (λ i. ws i ++ [])) (id⊢ 𝓤 (Run (h ∷ [])))) $
    enter ! 𝓣.C 𝓣.Λ fn (h ∷ []) Post $ alloc_all ! (λ l. pass_all ! refl (fits, tt) $
    sets ! (agg ! (and_then ! (lit ! tt) (and_then ! (get ! refl) (no_more !)))) refl (both_good Z (ptr_val null_ptr) h (record { fits = lit< tt }) fits) $
    returns ! (look_at ! 0 refl) $ free_all ! refl $ keep ! (0 ∷ []) $ nothing ! $ owned_in Z ! null_ptr h a ftrue $
    suffices ! _ (ends_at 𝓛 ended hs c z (both (ptr_val null_ptr) h) (record { at = null_ptr; alloc = a; table = None }) (tt, tt) (tt, tt)) $ says ! refl $
    nothing ! $ nothing ! $ fjoin ! $ join ! $ nothing ! $ join ! $ done !)))
