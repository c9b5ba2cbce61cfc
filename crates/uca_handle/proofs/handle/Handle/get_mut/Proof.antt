-- `get_mut` lends the table that the handle has, and the handle follows it.
use Rattle.uca_handle.proofs.Steps.{◌≡◌, ℕ, List, [], ◌∷◌, refl, sym, Some, is_some, IsTrue, bare, Val, vptr, SProp, ent, Fml, ftrue, flft, fsep, Logic, sem, split3, ‵, ◌⊛◌, some, at_ret, ◌$◌, ◌∵◌, !, qed, move, keep, drop, use1, split, join, pick, fsplit, fjoin, suffices, done, raw, later, await, fpack, rewrite, whole, sub, stop, fld, of_opd, first, blocks, exec, returns, enter, alloc_all, pass_all, free_all, look_at, get, sets, env, fact, tables, no, lone, RattleType, owns, Ptr, block_ptr, plain, heard, nothing, says, Stays, stay_dropped, walk_of, ends_at, ghosts, Z, LZ, Option, box_owns}
use seplogic.Ra.Ura.{Ura}
use base.Fraction.{full_share}
use mir.Syntax.{named}
use base.Logic.{sep}
use base.Fml.{GName}
use prog.Wp.{Env}
use types.Kit.{fsplit3, frame, group}
use types.Part.{look_in}
use types.Run.{load, addr}
use types.ByLocal.{through, sets_last}
use denote.Follow.{follows, lends_Part}
use denote.Memory.{part_at, mem, cell_at, part_of}
use denote.Ref.{MutRef, mut_vals, mut_Tells}
use denote.Signature.{mut_ref_to}
use denote.Steps.{opens}
use denote.Triple.Walked.{Goes-spent_ref}
use Rattle.std_alloc.proofs.VecSteps.Shapes.{after}
use Rattle.std.proofs.raw_atomic.Walks.{proved}
use Rattle.uca_handle.specs.Lending.{with_table}
use Rattle.uca_handle.specs.Held.{counted as R, holds}
use Rattle.uca_handle.proofs.Parts.{both, owned, owned_in, owned_out, value_of}
use Rattle.uca_handle.specs.contracts.handle.Handle as handle
use Rattle.uca_handle.specs.contracts.handle.Handle.get_mut.{ended, clauses}
use Rattle.uca_handle.specs.contracts.handle.Handle.get_mut.Key.{name as #self}
use Rattle.uca_handle.proofs.handle.Handle.get_mut.Statement.{statement}
use Rattle.uca_handle.proofs.handle.Handle.get_mut.Code as code

abbrev B : RattleType
B = handle.the_row

abbrev stayed : Stays ended.signature.params ended.kept
stayed = (stay_dropped (mut_ref_to (0 ∷ []) tt (plain (λ _. B))) no, tt)

-- all of a handle at rb and ro but the table that it lends
abbrev Rest : B.Denot → Val → (b o rb ro : ℕ) → Fml
Rest h hv b o rb ro = fsep (fsep (ghosts.dealloc_token h.alloc (bare (lone R.mir)) (block_ptr b o)) (Z.own_val h.alloc (hv ∷ []))) (cell_at full_share B.mir (both (vptr b o) hv ∷ []) rb ro)

back : {M : Type 1} {𝓤 : Ura M} (𝓛 : Logic 𝓤) (h : B.Denot) (hv : Val) (b o rb ro : ℕ) → h.at ≡ block_ptr b o → (w : R.Denot)
    → ent 𝓤 (sep 𝓤 (sem 𝓛 ((mem R).own_at w b o)) (sem 𝓛 (Rest h hv b o rb ro))) (sem 𝓛 ((mem B).own_at (with_table h w) rb ro))
unfolding part_of
back 𝓛 h hv b o rb ro e w =
    qed 𝓛 (‵ (part_at R full_share w b o) ∷ ‵ (Rest h hv b o rb ro) ∷ []) ∵ move ! (1 ∷ []) $ fsplit ! $ fsplit ! $ move ! (3 ∷ 0 ∷ []) $ fjoin ! $
    owned_in Z ! (block_ptr b o) hv h.alloc (box_owns (ghosts.dealloc_token h.alloc) R (block_ptr b o) w) $
    rewrite ! 0 (λ (p : Ptr). ‵ (B.own_val (record { at = p; alloc = h.alloc; table = Some w }) (both (vptr b o) hv ∷ []))) (sym e) refl $ move ! (1 ∷ 0 ∷ []) $ fjoin ! $
    fpack ! (List Val) (λ us. fsep (cell_at full_share B.mir us rb ro) (B.own_val (with_table h w) us)) (both (vptr b o) hv ∷ []) $ done !

pub get_mut_spec : {M : Type 1} → statement M
get_mut_spec 𝓤 𝓛 𝓜 𝓡 wired =
    let H = 𝓛.H in let 𝓣 = tables 𝓤 H 𝓜 𝓡 𝓡.env in let c = clauses 𝓛 𝓜.mem 𝓡.returns in let fn = code.function in
    proved 𝓛 ended stayed c 𝓜 𝓡 (Goes-spent_ref 𝓛 1 (0 ∷ []) tt (plain (λ _. B)), tt) #self fn (code.unfolded 𝓤 H 𝓜 𝓡 wired) (λ κs. (mut_vals, tt)) (λ κs. (mut_Tells (named 0) κs.0 B, tt)) (λ κs qs bounds a g are.
    let κ = κs.0 in let q = qs.0 in let r = a.0 in let h = r.now in let rb = r.ref_ptr.0 in let ro = r.ref_ptr.1 in let γ = r.ghost_name in let vs = mut_vals r in
    let y : (walk_of 𝓛 ended stayed c).Ghost = ((κs, qs, bounds, a, (vs, tt)), g) in let Post : Val → SProp 𝓤 = (walk_of 𝓛 ended stayed c).post y in
    qed 𝓛 (((‵ (flft κ q) ⊛ ‵ ftrue) ⊛ ‵ (owns (MutRef (named 0) κ B ∷ []) a (vs, tt))) ∷ raw (fact 𝓤 (IsTrue (is_some h.table))) ∷ []) ∵ move ! (1 ∷ []) $ heard ! (IsTrue (is_some h.table)) (λ there.
    let got = value_of h.table there in let x = got.0 in
    split ! $ enter ! 𝓣.C 𝓣.Λ fn vs Post $ alloc_all ! (λ l. pass_all ! refl ((tt, tt), tt) $ let En : Env 𝓤 H = env fn.locals l in
    move ! (1 ∷ []) $ fsplit ! $ fsplit3 ! $ drop ! $ move ! (3 ∷ []) $ split ! $ move ! (2 ∷ 3 ∷ 0 ∷ []) $
    opens ! tt B {h = h} rb ro (λ us. move ! (1 ∷ []) $ rewrite ! 0 (λ (m : Option R.Denot). ‵ (owned Z h.at h.alloc us (holds h.alloc h.at m))) got.1 refl $
    owned_out Z ! R LZ ghosts h.at h.alloc x us (λ b o hv e ws fits. fsplit ! $ move ! (1 ∷ 2 ∷ []) $ fjoin ! $ move ! (1 ∷ []) $
    rewrite ! 2 (λ (us : List Val). ‵ (cell_at full_share B.mir us rb ro)) ws refl $
    sets ! (of_opd ! (load ! (through ! refl (fld ! refl (stop !))) (look_in ! 2 (sub ! 0 refl (whole !))))) refl (tt, tt) $ sets ! (of_opd ! (get ! refl)) refl (tt, tt) $
    first ! $ blocks ! $ sets_last ! (addr ! (through ! refl (stop !))) refl (tt, tt) $ exec ! 𝓣.C 𝓣.Λ En (after 3 fn.body) (at_ret En Post) $ sets ! (of_opd ! (get ! refl)) refl (tt, tt) $
    move ! (1 ∷ 2 ∷ []) $ fjoin ! $ move ! (2 ∷ 3 ∷ 4 ∷ 1 ∷ 0 ∷ []) $ group ! 5 $
    let rest = sem 𝓛 (Rest h hv b o rb ro) in
    use1 𝓛 (later (some (λ (δ : GName). ‵ ((MutRef (named 0) κ R).own_val (record { ref_ptr = (b, o); ghost_name = δ; now = x }) (vptr b o ∷ [])) ⊛ ‵ (flft κ q) ⊛ ‵ (follows B R γ δ (with_table h)))))
    (lends_Part 𝓛 B R (with_table h) (named 0) κ q rb ro b o γ rest (back 𝓛 h hv b o rb ro e) (B.coded.code h) (B.coded.code h) x) $ await ! tt $ pick ! (λ δ. split3 ! $
    returns ! (look_at ! 0 refl) $ free_all ! refl $ keep ! (0 ∷ 1 ∷ 2 ∷ []) $
    suffices ! _ (ends_at 𝓛 ended stayed c y (vptr b o) (record { ref_ptr = (b, o); ghost_name = δ; now = x }) (tt, tt) (tt, tt)) $
    nothing ! $ nothing ! $ fjoin ! $ join ! $ nothing ! $ move ! (2 ∷ 0 ∷ []) $ join ! $ join ! $ frame ! $ says ! (sym got.1) $ done !))))))
