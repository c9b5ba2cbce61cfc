-- One piece after the other.
use Rattle.std.proofs.Common.{◌≡◌, ℕ, ◌+◌, ◌-◌, ◌≤◌, List, [], ◌++◌, length, take, refl, sym, ap, subst, ◌∙◌, arith, append_assoc, append-nil, length-append}
use Rattle.std.proofs.Math.Seq.{take-append-add}
use Rattle.std.proofs.lemmas.List.{take-append-le}
use Rattle.std.proofs.KnownBytes.{Appends-trans, Appends-nil}
use Rattle.std.specs.Io.KnownBytes.{Appends}
use Rattle.uca_io.specs.WriterState.{WriterState}
use Rattle.uca_io.specs.Writer.{WritesAll, WritesFront, CountsCause}
use Rattle.uca_io.specs.Counts.{one_more}
use Rattle.uca_io.specs.declared.writer.WriteCause.{WriteCause}
use Rattle.uca_io.specs.declared.writer.WriteCause.TheVariants.{Failed, Zero}
use Rattle.uca_io.specs.declared.writer.WriteFault.{WriteFault}
use Rattle.uca_io.specs.BufferState.{BufferState}
use Rattle.uca_io.specs.OutputBuffer.{accepted, Accepts, FailsPartway}

-- nothing was accepted
pub Accepts-none : (s : WriterState) (o : BufferState) → Accepts s o s o []
Accepts-none s o = record {
  went = [];
  writes = record { out = Appends-nil s.taken; failures = refl; zeros = refl };
  counted = omega arith;
  all = append-nil o.waiting;
}

-- bytes that were put behind what waits, after there was room for them
pub Accepts-pushed : (s t : WriterState) (o room after : BufferState) (bytes : List ℕ) → Accepts s o t room [] → after.waiting ≡ room.waiting ++ bytes → after.written ≡ room.written → Accepts s o t after bytes
Accepts-pushed s t o room after bytes made waits same = record {
  went = made.went;
  writes = made.writes;
  counted = same ∙ made.counted;
  all = ap (λ l. l ++ bytes) (sym (append-nil o.waiting) ∙ made.all) ∙ append_assoc made.went room.waiting bytes ∙ ap (λ l. made.went ++ l) (sym waits);
}

pub WritesAll-more : (a b c : WriterState) (xs ys : List ℕ) → WritesAll a b xs → WritesAll b c ys → WritesAll a c (xs ++ ys)
WritesAll-more a b c xs ys p q = record {
  out = Appends-trans a.taken b.taken c.taken xs ys p.out q.out;
  failures = q.failures ∙ p.failures;
  zeros = q.zeros ∙ p.zeros;
}

pub Accepts-more : (s0 s1 s2 : WriterState) (o0 o1 o2 : BufferState) (xs ys : List ℕ) → Accepts s0 o0 s1 o1 xs → Accepts s1 o1 s2 o2 ys → Accepts s0 o0 s2 o2 (xs ++ ys)
Accepts-more s0 s1 s2 o0 o1 o2 xs ys p q = record {
  went = p.went ++ q.went;
  writes = WritesAll-more s0 s1 s2 p.went q.went p.writes q.writes;
  counted = omega (arith, p.counted, q.counted, length-append p.went q.went);
  all = sym (append_assoc o0.waiting xs ys) ∙ ap (λ l. l ++ ys) p.all ∙ append_assoc p.went o1.waiting ys ∙ ap (λ l. p.went ++ l) q.all ∙ sym (append_assoc p.went q.went o2.waiting);
}

-- what was accepted in all
pub accepted-Accepts : (s0 s1 : WriterState) (o0 o1 : BufferState) (xs : List ℕ) → Accepts s0 o0 s1 o1 xs → accepted o1 ≡ accepted o0 + length xs
accepted-Accepts s0 s1 o0 o1 xs p =
    let whole : length o0.waiting + length xs ≡ length p.went + length o1.waiting = sym (length-append o0.waiting xs) ∙ ap length p.all ∙ length-append p.went o1.waiting in
    omega (arith, p.counted)

CountsCause-more : (cause : WriteCause) (a b c : WriterState) (xs : List ℕ) → WritesAll a b xs → CountsCause cause b c → CountsCause cause a c
CountsCause-more Failed a b c xs p q = (q.0 ∙ ap one_more p.failures, q.1 ∙ p.zeros)
CountsCause-more Zero a b c xs p q = (q.0 ∙ ap one_more p.zeros, q.1 ∙ p.failures)

-- it stopped at a later piece
pub FailsPartway-later : (s0 s1 s2 : WriterState) (o0 o1 : BufferState) (xs ys : List ℕ) (f : WriteFault) → Accepts s0 o0 s1 o1 xs → FailsPartway s1 o1 s2 ys f → FailsPartway s0 o0 s2 (xs ++ ys) f
FailsPartway-later s0 s1 s2 o0 o1 xs ys f p q =
    let whole : o0.waiting ++ (xs ++ ys) ≡ p.went ++ (o1.waiting ++ ys) = sym (append_assoc o0.waiting xs ys) ∙ ap (λ l. l ++ ys) p.all ∙ append_assoc p.went o1.waiting ys in
    let size : length (o0.waiting ++ (xs ++ ys)) ≡ length p.went + length (o1.waiting ++ ys) = ap length whole ∙ length-append p.went (o1.waiting ++ ys) in
    let place : f.written - o0.written ≡ length p.went + (f.written - o1.written) = omega (arith, p.counted, q.from_here) in
    let front : take (f.written - o0.written) (o0.waiting ++ (xs ++ ys)) ≡ p.went ++ take (f.written - o1.written) (o1.waiting ++ ys)
    = ap (take (f.written - o0.written)) whole ∙ ap (λ n. take n (p.went ++ (o1.waiting ++ ys))) place ∙ take-append-add p.went (o1.waiting ++ ys) (f.written - o1.written) in
    record {
      from_here = omega (arith, p.counted, q.from_here);
      part = omega (arith, p.counted, q.part, size);
      out = subst (Appends s0.taken s2.taken) (sym front) (Appends-trans s0.taken s1.taken s2.taken p.went _ p.writes.out q.out);
      cause = CountsCause-more f.cause s0 s1 s2 p.went p.writes q.cause;
    }

-- more would have followed
pub FailsPartway-longer : (s0 s1 : WriterState) (o0 : BufferState) (xs ys : List ℕ) (f : WriteFault) → FailsPartway s0 o0 s1 xs f → FailsPartway s0 o0 s1 (xs ++ ys) f
FailsPartway-longer s0 s1 o0 xs ys f q =
    let whole : o0.waiting ++ (xs ++ ys) ≡ (o0.waiting ++ xs) ++ ys = sym (append_assoc o0.waiting xs ys) in
    let size : length (o0.waiting ++ (xs ++ ys)) ≡ length (o0.waiting ++ xs) + length ys = ap length whole ∙ length-append (o0.waiting ++ xs) ys in
    let within : f.written - o0.written ≤ length (o0.waiting ++ xs) = omega (arith, q.part, q.from_here) in
    let front : take (f.written - o0.written) (o0.waiting ++ (xs ++ ys)) ≡ take (f.written - o0.written) (o0.waiting ++ xs)
    = ap (take (f.written - o0.written)) whole ∙ take-append-le (f.written - o0.written) (o0.waiting ++ xs) ys within in
    record {
      from_here = q.from_here;
      part = omega (arith, q.part, size);
      out = subst (Appends s0.taken s1.taken) (sym front) q.out;
      cause = q.cause;
    }

-- all that an empty buffer accepted was written
pub Accepts-all : (s0 s1 : WriterState) (o0 o1 : BufferState) (xs : List ℕ) → o0.waiting ≡ [] → o1.waiting ≡ [] → Accepts s0 o0 s1 o1 xs → WritesAll s0 s1 xs
Accepts-all s0 s1 o0 o1 xs none empty p =
    let whole : xs ≡ p.went = ap (λ l. l ++ xs) (sym none) ∙ p.all ∙ ap (λ l. p.went ++ l) empty ∙ append-nil p.went in
    subst (WritesAll s0 s1) (sym whole) p.writes

pub FailsPartway-front : (s0 s1 : WriterState) (o0 : BufferState) (xs : List ℕ) (f : WriteFault) → o0.waiting ≡ [] → o0.written ≡ 0 → FailsPartway s0 o0 s1 xs f → WritesFront s0 s1 xs f
FailsPartway-front s0 s1 o0 xs f none nothing q =
    let whole : o0.waiting ++ xs ≡ xs = ap (λ l. l ++ xs) none in
    let size : length (o0.waiting ++ xs) ≡ length xs = ap length whole in
    let place : f.written - o0.written ≡ f.written = omega (arith, nothing) in
    record {
      part = omega (arith, q.part, size, nothing);
      out = subst (Appends s0.taken s1.taken) (ap (take (f.written - o0.written)) whole ∙ ap (λ n. take n xs) place) q.out;
      cause = q.cause;
    }
