-- `into_loose` moves two fields, and what they own goes with them.
use Rattle.uca_handle.proofs.Steps.{List, [], ◌∷◌, ◌++◌, refl, sym, subst, is_some, IsTrue, Val, vptr, SProp, ent, id⊢, ftrue, WpFn, ‵, raw, ◌⊛◌, ◌$◌, ◌∵◌, !, qed, move, keep, drop, split, fsplit, fjoin, rewrite, suffices, join, done, stop, fld, of_opd, no_more, and_then, returns, enter, alloc_all, pass_all, free_all, look_at, get, get_in, sets, agg, sub, whole, fact, tables, yes, owns, block_ptr, Slot, types_at, plain, nothing, heard, says, Stays, stay_dropped, walk_of, ends_at, Goes-dropped, proved_at, ghosts, Z, LZ, Option, box_owns}
use Rattle.uca_handle.specs.Held.{counted, holds}
use Rattle.uca_handle.proofs.Parts.{both, both_good, owned, owned_in, owned_out, value_of}
use Rattle.uca_handle.specs.contracts.handle.Handle as handle
use Rattle.uca_handle.specs.contracts.handle.Handle.into_loose.{ended, clauses}
use Rattle.uca_handle.specs.contracts.handle.Handle.into_loose.Key.{name as #self}
use Rattle.uca_handle.proofs.handle.Handle.into_loose.Statement.{statement}
use Rattle.uca_handle.proofs.handle.Handle.into_loose.Code as code

abbrev From : Slot 0
From = plain (λ _. handle.the_row)

abbrev hs : Stays ended.signature.params ended.kept
hs = (stay_dropped From yes, tt)

pub into_loose_spec : {M : Type 1} → statement M
into_loose_spec 𝓤 𝓛 𝓜 𝓡 wired =
    let H = 𝓛.H in let 𝓣 = tables 𝓤 H 𝓜 𝓡 𝓡.env in let c = clauses 𝓛 𝓜.mem 𝓡.returns in let fn = code.function in
    proved_at 𝓛 ended hs c 𝓜 𝓡 (Goes-dropped 𝓛 0 From yes (λ κs x f. refl), tt) #self fn (code.unfolded 𝓤 H 𝓜 𝓡 wired) (λ z are.
    let v = z.0.3.0 in let a = v.alloc in let Post : Val → SProp 𝓤 = (walk_of 𝓛 ended hs c).post z in let Run : List Val → SProp 𝓤 = λ ws. WpFn 𝓤 H 𝓣.C 𝓣.Λ fn ws Post in
    qed 𝓛 ((‵ ftrue ⊛ ‵ (owns (types_at ended.signature.params z.0.0) z.0.3 z.0.4)) ∷ raw (fact 𝓤 (IsTrue (is_some v.table))) ∷ []) ∵ move ! (1 ∷ []) $ heard ! (IsTrue (is_some v.table)) (λ there.
    let got = value_of v.table there in let x = got.0 in
    split ! $ drop ! $ fsplit ! $ rewrite ! 0 (λ (m : Option counted.Denot). ‵ (owned Z v.at a z.0.4.0 (holds a v.at m))) got.1 refl $
    owned_out Z ! counted LZ ghosts v.at a x z.0.4.0 (λ b o h e ws fits.
    let w : Val = both (vptr b o) h in let typed = both_good Z (vptr b o) h tt fits in
    suffices ! (Run (w ∷ [])) (subst (λ (us : List Val). ent 𝓤 (Run (w ∷ [])) (Run us)) (sym (λ i. ws i ++ [])) (id⊢ 𝓤 (Run (w ∷ [])))) $
    enter ! 𝓣.C 𝓣.Λ fn (w ∷ []) Post $ alloc_all ! (λ l. pass_all ! refl (typed, tt) $
    sets ! (of_opd ! (get_in ! (fld ! refl (stop !)) (sub ! 0 refl (whole !)))) refl (tt, tt) $ sets ! (of_opd ! (get_in ! (fld ! refl (stop !)) (sub ! 1 refl (whole !)))) refl fits $
    sets ! (of_opd ! (get ! refl)) refl (tt, tt) $ sets ! (agg ! (and_then ! (get ! refl) (and_then ! (get ! refl) (no_more !)))) refl typed $
    returns ! (look_at ! 0 refl) $ free_all ! refl $ keep ! (0 ∷ 1 ∷ []) $ owned_in Z ! (block_ptr b o) h a (box_owns (ghosts.dealloc_token a) counted (block_ptr b o) x) $
    suffices ! _ (ends_at 𝓛 ended hs c z w (record { at = block_ptr b o; alloc = a; value = x }) (tt, tt) (tt, tt)) $ says ! (sym got.1) $
    nothing ! $ nothing ! $ fjoin ! $ join ! $ nothing ! $ join ! $ done !))))
