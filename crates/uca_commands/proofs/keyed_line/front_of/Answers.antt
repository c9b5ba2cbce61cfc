use Rattle.std.proofs.Common.{◌≡◌, ℕ, List, ◌<◌, ◌+◌, ◌*◌, ◌^◌, get_or, Fits, w8, ap, sym, ◌∙◌, arith}
use Rattle.uca_commands.specs.KeyFronts.{front}
use Rattle.uca_commands.proofs.KeyFrontLemmas.{front-next, front-none, front-room}
use Rattle.uca_commands.proofs.keyed_line.front_of.Goals as goal

-- the bytes of a key
is_byte : (key : List ℕ) → ((i : ℕ) → Fits w8 (get_or key i 0)) → (i : ℕ) → get_or key i 0 < 256
is_byte key fit i = let fits : Fits w8 (get_or key i 0) = fit i in omega (arith, fits)

room : (n : ℕ) (key : List ℕ) → n < 8 → ((i : ℕ) → Fits w8 (get_or key i 0)) → front n key * 256 + 255 < 2 ^ 64
room n key few fit = front-room n key few (λ i low. is_byte key fit i)

pub loop-at-init : goal.loop-at-init
loop-at-init c = record { value = sym (front-none c.args.key.now) }

pub overflow_mul-front : goal.overflow_mul-front
overflow_mul-front c = omega (arith, room c.loop-at.at c.args.key.now c.loop-at-test.true c.type_inv.key, c.loop-at.invariant.value)

pub overflow_add-front : goal.overflow_add-front
overflow_add-front c = omega (arith, room c.loop-at.at c.args.key.now c.loop-at-test.true c.type_inv.key, c.loop-at.invariant.value, c.digit.type_inv)

pub loop-at-preserved : goal.loop-at-preserved
loop-at-preserved c = record {
  value = ap (λ n. n * 256 + c.digit.result) c.loop-at.invariant.value ∙ ap (λ d. front c.loop-at.at c.args.key.now * 256 + d) c.digit.ensures ∙ sym (front-next c.loop-at.at c.args.key.now);
}

pub returns : goal.returns
returns c =
    let all : c.loop-at.at ≡ 8 = omega (arith, c.loop-at.auto.at-end, c.loop-at-test.false) in
    record {
      bytes = λ i low. is_byte c.args.key.now c.type_inv.key i;
      value = c.loop-at.invariant.value ∙ ap (λ n. front n c.args.key.now) all;
    }
