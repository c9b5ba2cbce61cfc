-- What calls of a reader gave.
use Rattle.std.proofs.Common.{◌≡◌, ℕ, ◌≤◌, List, [], ◌++◌, take, drop, sym, ap, subst, ◌∙◌}
use Rattle.std.proofs.lemmas.List.{append-nil, take-append-drop, take-take}
use Rattle.std.proofs.KnownBytes.{Consumes-trans, Consumes-kept}
use Rattle.std.specs.Io.KnownBytes.{Consumes, Keeps}
use Rattle.uca_io.specs.Counts.{one_more}
use Rattle.uca_io.specs.Reader.{ReaderState, Gives, GivesAndFails}

-- a reader gave one piece more
pub Gives-more : (old mid new : ReaderState) (bytes piece : List ℕ) → Gives old mid bytes → Consumes mid.coming new.coming piece → new.failures ≡ mid.failures → Gives old new (bytes ++ piece)
Gives-more old mid new bytes piece gives given failures =
    record { given = Consumes-trans _ _ _ bytes piece gives.given given; failures = failures ∙ gives.failures }

-- a call that gave no byte
pub Gives-none : (old mid new : ReaderState) (bytes buf : List ℕ) (n : ℕ) → n ≡ 0 → Gives old mid bytes → Consumes mid.coming new.coming (take n buf) → new.failures ≡ mid.failures → Gives old new bytes
Gives-none old mid new bytes buf n none gives given failures =
    let piece : Consumes mid.coming new.coming [] = subst (λ (m : ℕ). Consumes mid.coming new.coming (take m buf)) none given in
    subst (λ (xs : List ℕ). Gives old new xs) (append-nil bytes) (Gives-more old mid new bytes [] gives piece failures)

-- a call that failed
pub Gives-fails : (old mid new : ReaderState) (bytes : List ℕ) → Gives old mid bytes → Keeps mid.coming new.coming → new.failures ≡ one_more mid.failures → GivesAndFails old new bytes
Gives-fails old mid new bytes gives kept failures =
    record { given = Consumes-kept old.coming mid.coming new.coming bytes gives.given kept; failures = failures ∙ ap one_more gives.failures }

-- the front of a chunk, in which some bytes are left
pub cut_chunk : (left n : ℕ) (buf : List ℕ) → left ≤ n → take n buf ≡ take left buf ++ drop left (take n buf)
cut_chunk left n buf low = sym (take-append-drop left (take n buf)) ∙ ap (λ (xs : List ℕ). xs ++ drop left (take n buf)) (take-take left n buf low)
