-- The machine values of a pointer beside its allocator, and what they own. Assumes `Logic`.
use Rattle.uca_handle.proofs.Steps.{◌≡◌, ℕ, List, [], ◌∷◌, ◌++◌, refl, subst, sym, Option, Some, None, is_some, IsTrue, dnil, bare, Val, vptr, vstruct, of_list, never, fst∗, Fml, fsep, Logic, sem, ‵, ◌$◌, move, drop, fsplit, fjoin, fpick, fpack, feq_i, feq_l, RattleType, RawPtr, lone, Ptr, block_ptr, null_ptr, ptr_val, in_a_block, nothing, layout, handle_tells, Good, box_owns}
use Rattle.std.proofs.Common.{true≢false}
use mathlib.Core.Bool.{true, ◌&&◌}
use lib.Dec.{T}
use mir.Syntax.{impl, tnil}
use mir.Val.{vcons, vnil, has_ty, WT}
use types.Kit.{Item, Goal, Seq, Step, step}
use denote.RattleType.{Valss}
use denote.Param.Laws.{Laws}
use denote.Struct.Struct.{Shape, Struct, within}
use Rattle.core.specs.declared.alloc.Allocator.{Ghosts}
use Rattle.core.proofs.alloc.Calls.{Al}
use Rattle.std_alloc.proofs.ResultValues.{and_tt}

abbrev pub both : Val → Val → Val
both v w = vstruct (vcons v (vcons w vnil))

module _ (Z : RattleType) where
  abbrev parts : Shape
  parts = record { name = []; args = []; types = []; fields = RawPtr ∷ Z ∷ [] }

  -- the allocator, of which no method is called
  abbrev pub handled : Laws Z → Ghosts Z.Denot → Al
  handled L g = record { row = Z; laws = L; g = g; d = impl [] tnil dnil; drops = impl [] tnil dnil }

  -- a struct of a pointer and an allocator, which owns more
  abbrev pub owned : Ptr → Z.Denot → List Val → Fml → Fml
  owned p a vs more = fsep ((Struct parts).own_val (p, (a, tt)) vs) more

  pub both_good : (v h : Val) → WT v → Good (layout Z) h → T (has_ty (layout Z) h && true) × WT (both v h)
  both_good v h wt fits = (and_tt (has_ty (layout Z) h) fits.0, (wt, (fits.1, tt)))

  module _ {M : Type 1} {𝓤 : seplogic.Ra.Ura.Ura M} {𝓛 : Logic 𝓤} {K : Type 0} {Γ : List (Item 𝓤)} {G : Goal 𝓤 𝓛.H} where
    pub owned_in : K → (p : Ptr) (h : Val) (a : Z.Denot) (more : Fml) → Step K 𝓛 (‵ (owned p a (both (ptr_val p) h ∷ []) more) ∷ Γ) G (‵ more ∷ ‵ (Z.own_val a (h ∷ [])) ∷ Γ) G
    owned_in t p h a more = step (λ s. let v : Val = both (ptr_val p) h in
        nothing t $ move t (2 ∷ 0 ∷ []) $ fjoin t $ feq_i t (List Val) (ptr_val p ∷ []) (ptr_val p ∷ []) refl $ fjoin t $ feq_i t (List Val) (v ∷ []) (v ∷ []) refl $ fjoin t $
        fpack t (Valss (RawPtr ∷ Z ∷ [])) (within parts (p, (a, tt)) (v ∷ [])) (ptr_val p ∷ [], (h ∷ [], tt)) $ fjoin t $ s)

    -- where it owns the block, the pointer is into one
    pub owned_out : K → (R : RattleType) (L : Laws Z) (g : Ghosts Z.Denot) (p : Ptr) (a : Z.Denot) (x : R.Denot) (vs : List Val)
        → ((b o : ℕ) (h : Val) → p ≡ block_ptr b o → vs ≡ both (vptr b o) h ∷ [] → Good (layout Z) h → Seq K 𝓛 (‵ (box_owns (g.dealloc_token a) R (block_ptr b o) x) ∷ ‵ (Z.own_val a (h ∷ [])) ∷ Γ) G)
        → Seq K 𝓛 (‵ (owned p a vs (box_owns (g.dealloc_token a) R p x)) ∷ Γ) G
    owned_out t R L g p a x vs k =
        fsplit t $ fpick t (λ vss. fsplit t $ feq_l t (λ ev. fsplit t $ feq_l t (λ ep. fsplit t $ handle_tells (handled L g) t a vss.1.0 (λ h ea fits. move t (1 ∷ []) $ drop t $ move t (1 ∷ []) $
        in_a_block t p (λ p. box_owns (g.dealloc_token a) R p x) (fst∗ 𝓤 (never 𝓤) (sem 𝓛 (g.dealloc_token a (bare (lone R.mir)) null_ptr))) (λ b o e. k b o h e
        (subst (λ (p : Ptr). vs ≡ vstruct (of_list (ptr_val p ∷ h ∷ [])) ∷ []) e
        (subst (λ (ws : List Val). vs ≡ vstruct (of_list (ptr_val p ∷ (ws ++ []))) ∷ []) ea (subst (λ (ps : List Val). vs ≡ vstruct (of_list (ps ++ (vss.1.0 ++ []))) ∷ []) ep ev))) fits)))))

-- the value of one that is there
pub value_of : {X : Type 0} (m : Option X) → IsTrue (is_some m) → (x : X) × (m ≡ Some x)
value_of (Some x) is = (x, refl)
value_of None is = absurd (true≢false (sym is))
