-- How pieces are read, character by character.
use Rattle.std.proofs.Common.{◌≡◌, ℕ, zero, suc, ◌+◌, ◌*◌, ◌^◌, Ok, ◌-◌, ◌<◌, ◌≤◌, Bool, true, false, not, ◌==◌, List, [], ◌∷◌, ◌++◌, length, drop, Option, Some, None, append-nil, append_assoc, ne_eqb, refl, sym, ap, ap₂, subst, ◌∙◌, arith}
use Rattle.std.proofs.lemmas.Bool.{cond-true, cond-false}
use Rattle.std.proofs.lemmas.Bool.Decides.{nat_tests}
use Rattle.std.proofs.lemmas.List.Sums.{take_while-cons}
use Rattle.std.specs.List.{take_while}
use Rattle.std.specs.Option.{option_map}
use Rattle.std.specs.Char.{digit_value, is_digit}
use Rattle.uca_model.specs.RuleText.{begins_with, apostrophe, Quoted, after_quoted, quoted, refused, syntax, hex_value, code_point, gives, given, less_than, less_run, less_signs, equals, piece_of, is_white_space}
use Rattle.uca_model.specs.RuleText as text
use Rattle.uca_model.specs.Rules.{same}
use Rattle.uca_model.proofs.RuleTextLemmas.{piece-some}
use lib.Utf8.{scalar}
use Rattle.uca_tailor.specs.Scan.{ScanState, passed, first_left, TakesOne}
use Rattle.uca_tailor.specs.Pieces.{TakesPiece, quoted_piece, plain_piece, kind_of, first_piece, ReadsNext}
use Rattle.uca_tailor.specs.declared.pieces.Operator.{Operator}
use Rattle.uca_tailor.specs.declared.pieces.Operator.TheVariants as operator
use Rattle.uca_tailor.specs.declared.pieces.Piece.{Piece}
use Rattle.uca_tailor.specs.declared.pieces.Piece.TheVariants as piece
use Rattle.uca_tailor.proofs.ScanSteps.{passed-zero, passed-passed}

-- the character that was looked at is taken
pub take_peeked : (s t : ScanState) (given : Option ℕ) (c : ℕ) → Some c ≡ first_left s.left → TakesOne s given t → (s.left ≡ c ∷ t.left) × (t ≡ passed 1 s)
take_peeked s t None c is h = (let e : Some c ≡ None = is ∙ ap first_left h.0 in cc)
take_peeked s t (Some d) c is h = (let e : Some c ≡ Some d = is ∙ ap first_left h.0 in let same : d ≡ c = cc in (subst (λ x. s.left ≡ x ∷ t.left) same h.0, h.1))

peeked : (c : ℕ) (cs : List ℕ) → begins_with c cs ≡ true → Some c ≡ first_left cs
peeked c [] is = cc
peeked c (x ∷ cs) is = ap Some (grind (arith, nat_tests))

pub take_next : (s t : ScanState) (given : Option ℕ) (c : ℕ) → begins_with c s.left ≡ true → TakesOne s given t → (s.left ≡ c ∷ t.left) × (t ≡ passed 1 s)
take_next s t given c is h = take_peeked s t given c (peeked c s.left is) h

-- fewer characters are left
pub fewer_left : (s t : ScanState) (c : ℕ) → s.left ≡ c ∷ t.left → length t.left < length s.left
fewer_left s t c e = omega (arith, ap length e)

-- after n more characters, the first of which was taken
pub passed-taken : (n : ℕ) (s t : ScanState) → t ≡ passed 1 s → passed (n + 1) s ≡ passed n t
passed-taken n s t e = ap (λ k. passed k s) (let same : n + 1 ≡ 1 + n = omega arith in same) ∙ sym (passed-passed n 1 s) ∙ ap (passed n) (sym e)

-- Runs of characters that pass a test

run-cons : (p : ℕ → Bool) (c : ℕ) (cs : List ℕ) → p c ≡ true → length (take_while p (c ∷ cs)) ≡ length (take_while p cs) + 1
run-cons p c cs is =
    let e : take_while p (c ∷ cs) ≡ c ∷ take_while p cs = take_while-cons p c cs ∙ cond-true _ _ _ is in
    omega (arith, ap length e)

pub run_longer : (p : ℕ → Bool) (s t : ScanState) (c : ℕ) → s.left ≡ c ∷ t.left → p c ≡ true → length (take_while p s.left) ≡ length (take_while p t.left) + 1
run_longer p s t c left is = ap (λ cs. length (take_while p cs)) left ∙ run-cons p c t.left is

pub run_goes_on : (p : ℕ → Bool) (s t : ScanState) (c : ℕ) → s.left ≡ c ∷ t.left → t ≡ passed 1 s → p c ≡ true → passed (length (take_while p t.left)) t ≡ passed (length (take_while p s.left)) s
run_goes_on p s t c left e is = sym (ap (λ n. passed n s) (run_longer p s t c left is) ∙ passed-taken (length (take_while p t.left)) s t e)

stops_at : (p : ℕ → Bool) (c : ℕ) (cs : List ℕ) → Some c ≡ first_left cs → p c ≡ false → take_while p cs ≡ []
stops_at p c [] is fails = cc
stops_at p c (x ∷ cs) is fails = take_while-cons p x cs ∙ cond-false _ _ _ (let same : x ≡ c = cc in ap p same ∙ fails)

-- Quotes

-- with characters in front that are taken
abbrev pub after_all : List ℕ → ℕ → Quoted → Quoted
after_all done n q = record { text = done ++ q.text; size = q.size + n }

-- the scan is inside a quote, whose characters so far follow the string
pub record InQuote (old : ScanState) (string : List ℕ) (now : ScanState) (longer : List ℕ) : Type 0 where
  pub count : ℕ
  pub done : List ℕ
  pub scan : now ≡ passed count old
  pub appends : longer ≡ string ++ done
  pub rest : quoted old.left ≡ option_map (after_all done count) (quoted now.left)

-- no character of a quote is read yet
pub quote_begins : (old : ScanState) (string : List ℕ) → InQuote old string old string
quote_begins old string = record {
  count = 0;
  done = [];
  scan = sym (passed-zero old);
  appends = sym (append-nil string);
  rest = after_none (quoted old.left);
}
  where
    same : (q : Quoted) → q ≡ after_all [] 0 q
    same q = ap (λ n. let r : Quoted = record { text = q.text; size = n } in r) (let e : q.size ≡ q.size + 0 = omega arith in e)

    after_none : (q : Option Quoted) → q ≡ option_map (after_all [] 0) q
    after_none None = refl
    after_none (Some q) = ap Some (same q)

after_more : (done : List ℕ) (n c k : ℕ) (q : Option Quoted) → option_map (after_all done n) (option_map (after_quoted c k) q) ≡ option_map (after_all (done ++ c ∷ []) (n + k)) q
after_more done n c k None = refl
after_more done n c k (Some q) = ap Some (ap₂ (λ t m. let r : Quoted = record { text = t; size = m } in r) (sym (append_assoc done (c ∷ []) q.text)) (omega arith))

-- one more character, spelled by k characters
quote_more : (old : ScanState) (string : List ℕ) (now next : ScanState) (longer : List ℕ) (c k : ℕ) → InQuote old string now longer → next ≡ passed k now → quoted now.left ≡ option_map (after_quoted c k) (quoted next.left) → InQuote old string next (longer ++ c ∷ [])
quote_more old string now next longer c k is e rest = record {
  count = is.count + k;
  done = is.done ++ c ∷ [];
  scan = e ∙ ap (passed k) is.scan ∙ passed-passed k is.count old;
  appends = ap (λ xs. xs ++ c ∷ []) is.appends ∙ append_assoc string is.done (c ∷ []);
  rest = is.rest ∙ ap (option_map (after_all is.done is.count)) rest ∙ after_more is.done is.count c k (quoted next.left);
}

quoted-other : (c : ℕ) (cs : List ℕ) → (c == apostrophe) ≡ false → quoted (c ∷ cs) ≡ option_map (after_quoted c 1) (quoted cs)
unfolding quoted
quoted-other c [] is = cond-false _ _ _ is
quoted-other c (d ∷ cs) is = cond-true _ _ _ (ap not is)

quoted-end : (c : ℕ) (cs : List ℕ) → (c == apostrophe) ≡ true → begins_with apostrophe cs ≡ false → quoted (c ∷ cs) ≡ Some (record { text = []; size = 1 })
unfolding quoted
quoted-end c [] is ends = cond-true _ _ _ is
quoted-end c (d ∷ cs) is ends = cond-false _ _ _ (ap not is) ∙ cond-false _ _ _ ends

quoted-double : (c d : ℕ) (cs : List ℕ) → (c == apostrophe) ≡ true → (d == apostrophe) ≡ true → quoted (c ∷ d ∷ cs) ≡ option_map (after_quoted apostrophe 2) (quoted cs)
unfolding quoted
quoted-double c d cs is doubled = cond-false _ _ _ (ap not is) ∙ cond-true _ _ _ doubled

quoted-none : quoted [] ≡ None
unfolding quoted
quoted-none = refl

is_apostrophe : (c : ℕ) → c ≡ apostrophe → (c == apostrophe) ≡ true
is_apostrophe c e = grind (arith, nat_tests)

-- a character that is no quote
pub quote_other : (old : ScanState) (string : List ℕ) (now next : ScanState) (longer : List ℕ) (c : ℕ) → InQuote old string now longer → now.left ≡ c ∷ next.left → next ≡ passed 1 now → (c == apostrophe) ≡ false → InQuote old string next (longer ++ c ∷ [])
quote_other old string now next longer c is left e other = quote_more old string now next longer c 1 is e (ap quoted left ∙ quoted-other c next.left other)

-- two quotes
pub quote_double : (old : ScanState) (string : List ℕ) (now mid next : ScanState) (longer : List ℕ) (c : ℕ) → InQuote old string now longer → now.left ≡ c ∷ mid.left → mid ≡ passed 1 now → c ≡ apostrophe → mid.left ≡ apostrophe ∷ next.left → next ≡ passed 1 mid → InQuote old string next (longer ++ c ∷ [])
quote_double old string now mid next longer c is left e first second f =
    subst (λ x. InQuote old string next (longer ++ x ∷ [])) (sym first)
    (quote_more old string now next longer apostrophe 2 is (f ∙ ap (passed 1) e ∙ passed-passed 1 1 now)
    (ap quoted (left ∙ ap (λ cs. c ∷ cs) second) ∙ quoted-double c apostrophe next.left (is_apostrophe c first) refl))

-- the quote that ends
pub quote_ends : (old : ScanState) (string : List ℕ) (now next : ScanState) (longer : List ℕ) (c : ℕ) → InQuote old string now longer → now.left ≡ c ∷ next.left → next ≡ passed 1 now → c ≡ apostrophe → (b : Bool) → b ≡ begins_with apostrophe next.left → b ≡ false → TakesPiece (quoted_piece (quoted old.left)) old string next longer piece.Given
quote_ends old string now next longer c is left e first b known ends =
    let here : quoted now.left ≡ Some (record { text = []; size = 1 }) = ap quoted left ∙ quoted-end c next.left (is_apostrophe c first) (sym known ∙ ends) in
    let whole : quoted old.left ≡ Some (record { text = is.done ++ []; size = 1 + is.count }) = is.rest ∙ ap (option_map (after_all is.done is.count)) here in
    subst (λ q. TakesPiece (quoted_piece q) old string next longer piece.Given) (sym whole) (record {
      kind = refl;
      scan = e ∙ ap (passed 1) is.scan ∙ passed-passed 1 is.count old ∙ ap (λ n. passed n old) (let f : is.count + 1 ≡ (1 + is.count + 1) - 1 = omega arith in f);
      appends = is.appends ∙ ap (λ xs. string ++ xs) (sym (append-nil is.done));
    })

-- the text ends within the quote
pub quote_open : (old : ScanState) (string : List ℕ) (now : ScanState) (longer : List ℕ) → InQuote old string now longer → now.left ≡ [] → (quoted_piece (quoted old.left)).kind ≡ refused syntax
quote_open old string now longer is none =
    let whole : quoted old.left ≡ None = is.rest ∙ ap (λ cs. option_map (after_all is.done is.count) (quoted cs)) none ∙ ap (option_map (after_all is.done is.count)) quoted-none in
    ap (λ q. (quoted_piece q).kind) whole

-- Digits

hex-cons : (n value c : ℕ) (cs : List ℕ) → digit_value c < 16 → hex_value (suc n) value (c ∷ cs) ≡ hex_value n (value * 16 + digit_value c) cs
hex-cons n value c cs low = cond-true _ _ _ (let h : is_digit c 16 ≡ true = grind (arith, nat_tests) in h)

-- one more digit
pub hex_more : (n m value c : ℕ) (s t : ScanState) → n ≡ m + 1 → s.left ≡ c ∷ t.left → digit_value c < 16 → hex_value m (value * 16 + digit_value c) t.left ≡ hex_value n value s.left
hex_more n m value c s t e left low = sym (ap₂ (λ k cs. hex_value k value cs) (let f : n ≡ suc m = omega arith in f) left ∙ hex-cons m value c t.left low)

-- one that is none
pub hex_stops : (n m value c : ℕ) (s t : ScanState) → n ≡ m + 1 → s.left ≡ c ∷ t.left → ¬ (digit_value c < 16) → hex_value n value s.left ≡ None
hex_stops n m value c s t e left high =
    ap₂ (λ k cs. hex_value k value cs) (let f : n ≡ suc m = omega arith in f) left
    ∙ cond-false _ _ _ (let h : is_digit c 16 ≡ false = grind (arith, nat_tests) in h)

-- seven digits leave space for one more in 32 bits
pub seven_digits : (n i : ℕ) → n < 16 ^ i → i < 8 → n < 2 ^ 28
seven_digits n zero low few = omega arith
seven_digits n (suc zero) low few = omega arith
seven_digits n (suc (suc zero)) low few = omega arith
seven_digits n (suc (suc (suc zero))) low few = omega arith
seven_digits n (suc (suc (suc (suc zero)))) low few = omega arith
seven_digits n (suc (suc (suc (suc (suc zero))))) low few = omega arith
seven_digits n (suc (suc (suc (suc (suc (suc zero)))))) low few = omega arith
seven_digits n (suc (suc (suc (suc (suc (suc (suc zero))))))) low few = omega arith
seven_digits n (suc (suc (suc (suc (suc (suc (suc (suc i)))))))) low few = absurd (omega arith)

-- an escape with digits
pub code_point_taken : (n value c : ℕ) (said : Option ℕ) (s old t : ScanState) (string longer : List ℕ) → said ≡ Some value → scalar value ≡ true → c ≡ value → old ≡ passed 1 s → t ≡ passed n old → longer ≡ string ++ c ∷ [] → TakesPiece (code_point n said) s string t longer piece.Given
code_point_taken n value c said s old t string longer is ok is_value e f appends =
    let p : code_point n said ≡ text.piece (gives (value ∷ [])) (n + 2) = ap (code_point n) is ∙ cond-true _ _ _ ok in
    subst (λ q. TakesPiece q s string t longer piece.Given) (sym p) (record {
      kind = refl;
      scan = f ∙ sym (passed-taken n s old e) ∙ ap (λ k. passed k s) (let g : n + 1 ≡ (n + 2) - 1 = omega arith in g);
      appends = appends ∙ ap (λ x. string ++ x ∷ []) is_value;
    })

-- Memory

-- Operators

given-none : (o : Operator) → given (kind_of o) ≡ []
given-none operator.Reset = refl
given-none (operator.Relation op) = refl
given-none operator.LeftOut = refl
given-none operator.Expansion = refl

operator_taken : (p : text.Piece) (n : ℕ) (o : Operator) (s t : ScanState) (string : List ℕ) → p ≡ text.piece (kind_of o) (n + 1) → t ≡ passed n s → TakesPiece p s string t string (piece.Operator o)
operator_taken p n o s t string is e = subst (λ q. TakesPiece q s string t string (piece.Operator o)) (sym is) (record {
  kind = refl;
  scan = e ∙ ap (λ k. passed k s) (let f : n ≡ (n + 1) - 1 = omega arith in f);
  appends = sym (append-nil string) ∙ ap (λ xs. string ++ xs) (sym (given-none o));
})

-- an operator of `<`
pub less_taken : (c : ℕ) (o : Operator) (s t : ScanState) (string : List ℕ) → c ≡ less_than → less_signs (less_run s.left + 1) (drop (less_run s.left) s.left) ≡ text.piece (kind_of o) (less_run s.left + 1) → t ≡ passed (less_run s.left) s → TakesPiece (piece_of c s.left) s string t string (piece.Operator o)
less_taken c o s t string first is e = operator_taken (piece_of c s.left) (less_run s.left) o s t string (ap (λ x. piece_of x s.left) first ∙ is) e

-- the operator `=`
pub equals_taken : (c : ℕ) (o : Operator) (s : ScanState) (string : List ℕ) → c ≡ equals → text.operator same 1 s.left ≡ text.piece (kind_of o) 1 → TakesPiece (piece_of c s.left) s string s string (piece.Operator o)
equals_taken c o s string first is = operator_taken (piece_of c s.left) 0 o s s string (ap (λ x. piece_of x s.left) first ∙ is) (sym (passed-zero s))

-- The next piece

-- its first character, and what it leaves
pub next_taken : (s t u : ScanState) (c : ℕ) (string longer : List ℕ) (k : Piece) → s.left ≡ c ∷ t.left → t ≡ passed 1 s → TakesPiece (piece_of c t.left) t string u longer k → ReadsNext (first_piece s.left) s string u longer (Ok (Some k))
next_taken s t u c string longer k left e taken =
    let some : 1 ≤ (piece_of c t.left).size = piece-some c t.left in
    subst (λ cs. ReadsNext (first_piece cs) s string u longer (Ok (Some k))) (sym left) (record {
      kind = taken.kind;
      scan = taken.scan ∙ sym (passed-taken ((piece_of c t.left).size - 1) s t e) ∙ ap (λ n. passed n s) (let f : ((piece_of c t.left).size - 1) + 1 ≡ (piece_of c t.left).size = omega arith in f);
      appends = taken.appends;
    })

-- A character that begins no other piece

neq : (c n : ℕ) → ¬ (c ≡ n) → (c == n) ≡ false
neq c n no_n = ne_eqb c n no_n

pub other_piece : (c : ℕ) (cs : List ℕ) → is_white_space c ≡ false → ¬ (c ≡ 35) → ¬ (c ≡ 38) → ¬ (c ≡ 60) → ¬ (c ≡ 61) → ¬ (c ≡ 47) → ¬ (c ≡ 39) → ¬ (c ≡ 92) → piece_of c cs ≡ plain_piece c
other_piece c cs blank a b d e f g h =
    cond-false _ _ _ blank ∙ cond-false _ _ _ (neq c 35 a) ∙ cond-false _ _ _ (neq c 38 b) ∙ cond-false _ _ _ (neq c 60 d) ∙ cond-false _ _ _ (neq c 61 e) ∙ cond-false _ _ _ (neq c 47 f) ∙ cond-false _ _ _ (neq c 39 g) ∙ cond-false _ _ _ (neq c 92 h)
