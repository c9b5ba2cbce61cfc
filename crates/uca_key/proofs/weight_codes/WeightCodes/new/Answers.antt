use Rattle.uca_key.proofs.CodeSteps.{code-made}
use Rattle.uca_key.proofs.Common.{common_steps, ◌≡◌, ◌∙◌, ◌==◌, ◌||◌, Bool, List, ap, arith, false, get_or, length, refl, ℕ, list_any, PrimaryCode, is_common, AreFlags, is_named}
use Rattle.std.proofs.Math.Bool.{or-false}
use Rattle.uca_key.proofs.weight_codes.WeightCodes.new.Goals as goal

pub returns : goal.returns
returns c = grind (arith, common_steps, code-made)

pub invariant_of-result : goal.invariant_of-result
invariant_of-result c =
    let size : length c.deref-3.result.now ≡ 65536 = ap length c.deref-3.ensures.value ∙ c.in_ok-flags.ensures.size in
    let k : PrimaryCode = record { commons = c.in_ok-commons.commons.items; singles = c.copy_from_slice.new.self; anchors = c.copy_from_slice-2.new.self } in
    let common : (w : ℕ) → list_any (λ (x : ℕ). x == w) c.deref.result.now ≡ is_common k w = λ w. ap (λ (l : List ℕ). list_any (λ (x : ℕ). x == w) l) c.deref.ensures.value in
    let commons : AreFlags (is_common k) c.deref-3.result.now = λ w h. ap (λ (l : List Bool). get_or l w false) c.deref-3.ensures.value ∙ c.in_ok-flags.ensures.flags w h ∙ or-false _ ∙ or-false _ ∙ common w in
    let named : AreFlags (is_named k) c.deref-4.result.now = λ w h. ap (λ (l : List Bool). get_or l w false) c.deref-4.ensures.value ∙ c.in_ok-named.ensures.flags w h ∙ or-false _ in
    let any : AreFlags (λ w. is_named k w || is_common k w) c.deref-5.result.now =
    λ w h. ap (λ (l : List Bool). get_or l w false) c.deref-5.ensures.value ∙ c.in_ok-any.ensures.flags w h ∙ ap (λ (l : List ℕ). is_named k w || list_any (λ (x : ℕ). x == w) l) c.deref-2.ensures.value in
    record {
      size = c.in_ok-codes.ensures.size;
      each = c.in_ok-codes.ensures.codes k (record { commons = commons; singles = refl; anchors = refl; named = named; any = any });
      few = let letters = ap length (c.copy_from_slice-2.ensures.after ∙ c.as_slice-2.ensures.value ∙ c.in_ok-weights_of-2.ensures) in omega (arith, letters);
    }
