-- How a string is read, piece by piece.
use Rattle.std.proofs.Common.{◌≡◌, ◌≢◌, ℕ, ◌<◌, ◌≤◌, true, false, not, List, [], ◌∷◌, ◌++◌, length, drop, flat_map, Option, Some, None, Ok, Err, MatchOption, append-nil, append_assoc, refl, sym, ap, ap₂, subst, ◌∙◌, arith, length-drop, length-append}
use Rattle.std.proofs.lemmas.Bool.{cond-true, cond-false, le-leb, le-ltb}
use Rattle.std.proofs.lemmas.Bool.Decides.{nat_tests}
use Rattle.std.specs.Prelude.{nat_le, nat_lt}
use Rattle.unicode_normalization.specs.Forms.{nfd, Nfd}
use Rattle.unicode_normalization.specs.Decompose.{decompose_canonical}
use Rattle.unicode_normalization.proofs.DecomposeLemmas.{length-from_decompose}
use Rattle.unicode_normalization.proofs.OrderLemmas.{length-canonical_order}
use Rattle.uca_model.proofs.SafeForms.{is_safe-nfd}
use Rattle.uca_model.proofs.SafeLemmas.{nfd-is}
use Rattle.uca_weights.specs.declared.limits.TheConstants.{MAX_RUN, MAX_KEY}
use Rattle.uca_model.specs.SafeText.{is_safe, longest_run}
use Rattle.uca_model.specs.Rules.{IsString}
use Rattle.std.proofs.lemmas.List.Concat.{flat_map-cons}
use Rattle.uca_model.specs.RuleText as text
use Rattle.uca_model.specs.RuleText.{Part, Segments, segments, with_part, part_at, is_operator, string_of, given, gives, skipped, refused, piece_of, RuleFault, part_faults, leading_faults, piece_faults, leading_kind_faults, Kind, end_faults, fault_if}
use Rattle.uca_model.specs.RuleText.{parts_from}
use Rattle.uca_model.proofs.RuleTextLemmas.{parts-step, parts-none, piece-some}
use Rattle.uca_tailor.specs.Faults.{reported_text_cause}
use Rattle.uca_tailor.specs.Scan.{ScanState, passed}
use Rattle.uca_tailor.specs.Pieces.{first_piece, kind_of, ReadsNext, TakesNext, RefusesPiece, takes_memory}
use Rattle.uca_tailor.specs.Strings.{left_of, segments_from, part_of, FindsNext, ReadsString, string_faults, BeginsAt}
use Rattle.uca_tailor.specs.declared.faults.RuleCause.{RuleCause}
use Rattle.uca_tailor.specs.declared.strings.Found.{Found}
use Rattle.uca_tailor.specs.declared.pieces.Operator.{Operator}
use Rattle.uca_tailor.specs.declared.pieces.Operator.TheVariants as operator
use Rattle.uca_tailor.specs.declared.pieces.Piece.{Piece}
use Rattle.uca_tailor.specs.declared.pieces.Piece.TheVariants as piece

-- What the next piece was

-- a piece that was taken
pub record Took (s : ScanState) (string : List ℕ) (t : ScanState) (longer : List ℕ) (k : Piece) : Type 0 where
  pub first : text.Piece
  pub is_first : first_piece s.left ≡ Some first
  pub taken : TakesNext first s string t longer k

pub took : (s : ScanState) (string : List ℕ) (t : ScanState) (longer : List ℕ) (k : Piece) → ReadsNext (first_piece s.left) s string t longer (Ok (Some k)) → Took s string t longer k
took s string t longer k reads = go (first_piece s.left) refl reads
  where
    go : (o : Option text.Piece) → first_piece s.left ≡ o → ReadsNext o s string t longer (Ok (Some k)) → Took s string t longer k
    go None e reads = (let same = reads.0 in cc)
    go (Some p) e reads = record { first = p; is_first = e; taken = reads }

-- a piece that was refused
pub record Refused (s : ScanState) (cause : RuleCause) : Type 0 where
  pub first : text.Piece
  pub is_first : first_piece s.left ≡ Some first
  pub fault : RefusesPiece first cause

pub refused_first : (s : ScanState) (string : List ℕ) (t : ScanState) (longer : List ℕ) (cause : RuleCause) → ReadsNext (first_piece s.left) s string t longer (Err cause) → Refused s cause
refused_first s string t longer cause reads = go (first_piece s.left) refl reads
  where
    go : (o : Option text.Piece) → first_piece s.left ≡ o → ReadsNext o s string t longer (Err cause) → Refused s cause
    go None e reads = (let same = reads.0 in cc)
    go (Some p) e reads = record { first = p; is_first = e; fault = reads }

-- no piece is left
pub none_left : (s : ScanState) (string : List ℕ) (t : ScanState) (longer : List ℕ) → ReadsNext (first_piece s.left) s string t longer (Ok None) → s.left ≡ []
none_left s string t longer reads = go s.left reads
  where
    go : (cs : List ℕ) → ReadsNext (first_piece cs) s string t longer (Ok None) → cs ≡ []
    go [] reads = refl
    go (c ∷ cs) reads = absurd reads

pub same_at_end : (s : ScanState) (string : List ℕ) (t : ScanState) (longer : List ℕ) → ReadsNext (first_piece s.left) s string t longer (Ok None) → longer ≡ string
same_at_end s string t longer reads = go s.left reads
  where
    go : (cs : List ℕ) → ReadsNext (first_piece cs) s string t longer (Ok None) → longer ≡ string
    go [] reads = reads.1
    go (c ∷ cs) reads = absurd reads

-- Pieces and segments

parts-first : (at : ℕ) (cs : List ℕ) (p : text.Piece) → first_piece cs ≡ Some p → (let part : Part = part_at at p cs in parts_from at cs ≡ part ∷ parts_from part.after (drop p.size cs))
parts-first at [] p e = cc
parts-first at (c ∷ cs) p e = let same : piece_of c cs ≡ p = cc in subst (λ q. let part : Part = part_at at q (c ∷ cs) in parts_from at (c ∷ cs) ≡ part ∷ parts_from part.after (drop q.size (c ∷ cs))) same (parts-step at c cs)

-- the segments of what is left, by those after the next piece
pub left-step : (s t : ScanState) (p : text.Piece) → first_piece s.left ≡ Some p → t ≡ passed p.size s → left_of s ≡ with_part (part_at s.at p s.left) (left_of t)
left-step s t p e f = ap segments (parts-first s.at s.left p e) ∙ ap (λ u. with_part (part_at s.at p s.left) (left_of u)) (sym f)

first-some : (cs : List ℕ) (p : text.Piece) → first_piece cs ≡ Some p → length (drop p.size cs) < length cs
first-some [] p e = cc
first-some (c ∷ cs) p e =
    let same : piece_of c cs ≡ p = cc in
    let some : 1 ≤ p.size = subst (λ q. 1 ≤ q.size) same (piece-some c cs) in
    omega (arith, length-drop p.size (c ∷ cs))

pub fewer : (s t : ScanState) (string longer : List ℕ) (k : Piece) → Took s string t longer k → length t.left < length s.left
fewer s t string longer k is = subst (λ u. length u.left < length s.left) (sym is.taken.scan) (first-some s.left is.first is.is_first)

left-none : (s : ScanState) → s.left ≡ [] → left_of s ≡ record { leading = []; all = [] }
left-none s none = ap segments (ap (parts_from s.at) none ∙ parts-none s.at)

with-other : (p : Part) (s : Segments) → is_operator p.kind ≡ false → with_part p s ≡ record { leading = p ∷ s.leading; all = s.all }
with-other p s is = cond-false _ _ _ is

with-operator : (p : Part) (s : Segments) → is_operator p.kind ≡ true → with_part p s ≡ record { leading = []; all = record { operator = p; pieces = s.leading } ∷ s.all }
with-operator p s is = cond-true _ _ _ is

kinds-operator : (o : Operator) → is_operator (kind_of o) ≡ true
kinds-operator operator.Reset = refl
kinds-operator (operator.Relation op) = refl
kinds-operator operator.LeftOut = refl
kinds-operator operator.Expansion = refl

-- a scan that has passed over pieces without fault
pub record Skips (faults_of : Part → List RuleFault) (s t : ScanState) : Type 0 where
  pub faults : flat_map faults_of (left_of s).leading ≡ flat_map faults_of (left_of t).leading
  pub rest : (left_of s).all ≡ (left_of t).all

pub skips_none : (faults_of : Part → List RuleFault) (s : ScanState) → Skips faults_of s s
skips_none faults_of s = record { faults = refl; rest = refl }

skips_more : (faults_of : Part → List RuleFault) (s t u : ScanState) (p : text.Piece) → Skips faults_of s t → first_piece t.left ≡ Some p → u ≡ passed p.size t → is_operator p.kind ≡ false → faults_of (part_at t.at p t.left) ≡ [] → Skips faults_of s u
skips_more faults_of s t u p is e f no_operator fine =
    let step : left_of t ≡ record { leading = part_at t.at p t.left ∷ (left_of u).leading; all = (left_of u).all } = left-step t u p e f ∙ with-other (part_at t.at p t.left) (left_of u) no_operator in
    record {
      faults = is.faults ∙ ap (λ w. flat_map faults_of w.leading) step ∙ flat_map-cons faults_of (part_at t.at p t.left) (left_of u).leading ∙ ap (λ fs. fs ++ flat_map faults_of (left_of u).leading) fine;
      rest = is.rest ∙ ap (λ w. w.all) step;
    }

no_operator_from : (k : Kind) (j : Kind) → k ≡ j → is_operator j ≡ false → is_operator k ≡ false
no_operator_from k j e is = ap is_operator e ∙ is

-- over white space or a comment
pub skips_leading : (s t u : ScanState) (string longer : List ℕ) → Skips leading_faults s t → Took t string u longer piece.Skipped → Skips leading_faults s u
skips_leading s t u string longer is took = skips_more leading_faults s t u took.first is took.is_first took.taken.scan (no_operator_from _ _ took.taken.kind refl) (ap (leading_kind_faults t.at) took.taken.kind)

pub skips_skipped : (s t u : ScanState) (string longer : List ℕ) → Skips part_faults s t → Took t string u longer piece.Skipped → Skips part_faults s u
skips_skipped s t u string longer is took = skips_more part_faults s t u took.first is took.is_first took.taken.scan (no_operator_from _ _ took.taken.kind refl) (ap (piece_faults t.at) took.taken.kind)

-- over characters of a string
pub skips_given : (s t u : ScanState) (string longer : List ℕ) → Skips part_faults s t → Took t string u longer piece.Given → Skips part_faults s u
skips_given s t u string longer is took = skips_more part_faults s t u took.first is took.is_first took.taken.scan (no_operator_from _ _ took.taken.kind refl) (ap (piece_faults t.at) took.taken.kind)

-- the string and what is left of it
string-step : (t u : ScanState) (string longer : List ℕ) (k : Piece) (is : Took t string u longer k) → is_operator is.first.kind ≡ false → longer ++ string_of (left_of u).leading ≡ string ++ string_of (left_of t).leading
string-step t u string longer k is no_operator =
    let part : Part = part_at t.at is.first t.left in
    let step : left_of t ≡ record { leading = part ∷ (left_of u).leading; all = (left_of u).all } = left-step t u is.first is.is_first is.taken.scan ∙ with-other part (left_of u) no_operator in
    ap (λ xs. xs ++ string_of (left_of u).leading) is.taken.appends ∙ append_assoc string (given is.first.kind) (string_of (left_of u).leading)
    ∙ ap (λ xs. string ++ xs) (sym (ap (λ w. string_of w.leading) step ∙ flat_map-cons (λ p. given p.kind) part (left_of u).leading))

pub string-skipped : (t u : ScanState) (string longer : List ℕ) → Took t string u longer piece.Skipped → longer ++ string_of (left_of u).leading ≡ string ++ string_of (left_of t).leading
string-skipped t u string longer is = string-step t u string longer piece.Skipped is (no_operator_from _ _ is.taken.kind refl)

pub string-given : (t u : ScanState) (string longer : List ℕ) → Took t string u longer piece.Given → longer ++ string_of (left_of u).leading ≡ string ++ string_of (left_of t).leading
string-given t u string longer is = string-step t u string longer piece.Given is (no_operator_from _ _ is.taken.kind refl)

-- The end of a string

found-step : (t u : ScanState) (string longer : List ℕ) (o : Operator) → Took t string u longer (piece.Operator o) → left_of t ≡ record { leading = []; all = segments_from (Some (record { operator = o; at = t.at })) u }
found-step t u string longer o is =
    let part : Part = part_at t.at is.first t.left in
    let kind : is.first.kind ≡ kind_of o = is.taken.kind in
    let same : part ≡ part_of o t.at u = ap₂ (λ k a. let p : Part = record { kind = k; at = t.at; after = a } in p) kind (sym (ap (λ w. w.at) is.taken.scan)) in
    left-step t u is.first is.is_first is.taken.scan ∙ with-operator part (left_of u) (ap is_operator kind ∙ kinds-operator o)
    ∙ ap (λ p. let w : Segments = record { leading = []; all = record { operator = p; pieces = (left_of u).leading } ∷ (left_of u).all } in w) same

-- an operator was found
pub finds_operator : (faults_of : Part → List RuleFault) (s t u : ScanState) (string longer : List ℕ) (o : Operator) → Skips faults_of s t → Took t string u longer (piece.Operator o) → FindsNext faults_of s (Some (record { operator = o; at = t.at })) u
finds_operator faults_of s t u string longer o is took =
    let step = found-step t u string longer o took in
    record {
      fine = is.faults ∙ ap (λ w. flat_map faults_of w.leading) step;
      rest = is.rest ∙ ap (λ w. w.all) step;
    }

-- or the end of the text
pub finds_none : (faults_of : Part → List RuleFault) (s t u : ScanState) → Skips faults_of s t → t.left ≡ [] → FindsNext faults_of s None u
finds_none faults_of s t u is none = record {
  fine = is.faults ∙ ap (λ w. flat_map faults_of w.leading) (left-none t none);
  rest = is.rest ∙ ap (λ w. w.all) (left-none t none);
}

pub string-found : (t u : ScanState) (string longer : List ℕ) (o : Operator) → Took t string u longer (piece.Operator o) → longer ≡ string → string ++ string_of (left_of t).leading ≡ longer
string-found t u string longer o is same = ap (λ w. string ++ string_of w.leading) (found-step t u string longer o is) ∙ append-nil string ∙ sym same

pub string-ended : (t : ScanState) (string : List ℕ) → t.left ≡ [] → string ++ string_of (left_of t).leading ≡ string
string-ended t string none = ap (λ w. string ++ string_of w.leading) (left-none t none) ∙ append-nil string

given-none : (o : Operator) → given (kind_of o) ≡ []
given-none operator.Reset = refl
given-none (operator.Relation op) = refl
given-none operator.LeftOut = refl
given-none operator.Expansion = refl

pub same-string : (t u : ScanState) (string longer : List ℕ) (o : Operator) → Took t string u longer (piece.Operator o) → longer ≡ string
same-string t u string longer o is = is.taken.appends ∙ ap (λ xs. string ++ xs) (ap given is.taken.kind ∙ given-none o) ∙ append-nil string

-- Faults

-- a piece with a fault begins the faults of what is left
fault-first : (faults_of : Part → List RuleFault) (s t : ScanState) (p : text.Piece) (f : RuleFault) → Skips faults_of s t → first_piece t.left ≡ Some p → is_operator p.kind ≡ false → faults_of (part_at t.at p t.left) ≡ f ∷ [] → (rest : List RuleFault) × (flat_map faults_of (left_of s).leading ≡ f ∷ rest)
fault-first faults_of s t p f is e no_operator fault =
    let u : ScanState = passed p.size t in
    let step : left_of t ≡ record { leading = part_at t.at p t.left ∷ (left_of u).leading; all = (left_of u).all } = left-step t u p e refl ∙ with-other (part_at t.at p t.left) (left_of u) no_operator in
    (flat_map faults_of (left_of u).leading, is.faults ∙ ap (λ w. flat_map faults_of w.leading) step ∙ flat_map-cons faults_of (part_at t.at p t.left) (left_of u).leading ∙ ap (λ fs. fs ++ flat_map faults_of (left_of u).leading) fault)

-- a piece is refused
pub refused_leading : (s t : ScanState) (cause : RuleCause) → Skips leading_faults s t → Refused t cause → BeginsAt t.at cause (flat_map leading_faults (left_of s).leading)
refused_leading s t cause is fault = go (reported_text_cause cause) fault.fault
  where
    go : (o : Option text.RuleCause) → MatchOption o (takes_memory fault.first.kind ≡ true) (λ stated. fault.first.kind ≡ text.refused stated) → MatchOption o (Unit {0}) (λ stated. (rest : List RuleFault) × (flat_map leading_faults (left_of s).leading ≡ record { at = t.at; cause = stated } ∷ rest))
    go None u = tt
    go (Some stated) e = fault-first leading_faults s t fault.first (record { at = t.at; cause = stated }) is fault.is_first (no_operator_from _ _ e refl) (ap (leading_kind_faults t.at) e)

pub refused_part : (s t : ScanState) (cause : RuleCause) → Skips part_faults s t → Refused t cause → BeginsAt t.at cause (flat_map part_faults (left_of s).leading)
refused_part s t cause is fault = go (reported_text_cause cause) fault.fault
  where
    go : (o : Option text.RuleCause) → MatchOption o (takes_memory fault.first.kind ≡ true) (λ stated. fault.first.kind ≡ text.refused stated) → MatchOption o (Unit {0}) (λ stated. (rest : List RuleFault) × (flat_map part_faults (left_of s).leading ≡ record { at = t.at; cause = stated } ∷ rest))
    go None u = tt
    go (Some stated) e = fault-first part_faults s t fault.first (record { at = t.at; cause = stated }) is fault.is_first (no_operator_from _ _ e refl) (ap (piece_faults t.at) e)

-- a character comes before the first operator
pub given_leading : (s t u : ScanState) (string longer : List ℕ) → Skips leading_faults s t → Took t string u longer piece.Given → (rest : List RuleFault) × (flat_map leading_faults (left_of s).leading ≡ record { at = t.at; cause = text.syntax } ∷ rest)
given_leading s t u string longer is took = fault-first leading_faults s t took.first (record { at = t.at; cause = text.syntax }) is took.is_first (no_operator_from _ _ took.taken.kind refl) (ap (leading_kind_faults t.at) took.taken.kind)

-- the faults of a text in which one was met
pub some_faults : (fs : List RuleFault) (f : RuleFault) → (rest : List RuleFault) × (fs ≡ f ∷ rest) → fs ≢ []
some_faults fs f (rest, e) = λ none. (let same : f ∷ rest ≡ [] = sym e ∙ none in cc)

leading-one : (at : ℕ) (k : Kind) → takes_memory k ≡ true → (f : RuleFault) × (leading_kind_faults at k ≡ f ∷ [])
leading-one at (gives cs) is = (_, refl)
leading-one at (refused cause) is = (_, refl)
leading-one at skipped is = cc
leading-one at text.resets is = cc
leading-one at (text.relates op) is = cc
leading-one at text.left_out_relation is = cc
leading-one at text.expands is = cc

takes-no_operator : (k : Kind) → takes_memory k ≡ true → is_operator k ≡ false
takes-no_operator (gives cs) is = refl
takes-no_operator (refused cause) is = refl
takes-no_operator skipped is = refl
takes-no_operator text.resets is = cc
takes-no_operator (text.relates op) is = cc
takes-no_operator text.left_out_relation is = cc
takes-no_operator text.expands is = cc

takes-refused : (p : text.Piece) (cause : RuleCause) → RefusesPiece p cause → takes_memory p.kind ≡ true
takes-refused p cause fault = go (reported_text_cause cause) fault
  where
    go : (o : Option text.RuleCause) → MatchOption o (takes_memory p.kind ≡ true) (λ stated. p.kind ≡ text.refused stated) → takes_memory p.kind ≡ true
    go None is = is
    go (Some stated) e = ap takes_memory e

-- a piece that is refused, or an allocation for it that fails
pub refused_some : (s t : ScanState) (cause : RuleCause) → Skips leading_faults s t → Refused t cause → flat_map leading_faults (left_of s).leading ≢ []
refused_some s t cause is fault =
    let takes = takes-refused fault.first cause fault.fault in
    let one = leading-one t.at fault.first.kind takes in
    some_faults _ one.0 (fault-first leading_faults s t fault.first one.0 is fault.is_first (takes-no_operator fault.first.kind takes) one.1)

-- Whole strings

-- a string without fault
pub string_read : (s t : ScanState) (found : Option Found) (string points : List ℕ) → FindsNext part_faults s found t → string ≡ string_of (left_of s).leading → points ≡ nfd string → IsString points → end_faults s.at string ≡ [] → ReadsString s points found t
string_read s t found string points finds whole is_nfd is_string fine = record {
  is_string = is_string;
  value = is_nfd ∙ ap nfd whole;
  fine = ap (λ fs. fs ++ end_faults s.at (string_of (left_of s).leading)) finds.fine ∙ ap (end_faults s.at) (sym whole) ∙ fine;
  rest = finds.rest;
}

-- one with a fault at its end
pub string_refused : (s t : ScanState) (found : Option Found) (string : List ℕ) (cause : RuleCause) → FindsNext part_faults s found t → string ≡ string_of (left_of s).leading → BeginsAt s.at cause (end_faults s.at string) → BeginsAt s.at cause (string_faults s)
string_refused s t found string cause finds whole begins =
    subst (BeginsAt s.at cause) (ap (end_faults s.at) whole ∙ sym (ap (λ fs. fs ++ end_faults s.at (string_of (left_of s).leading)) finds.fine)) begins

-- The end of a string

-- decompositions are some code points
pub some_nfd : (xs : List ℕ) → 0 < length xs → 1 ≤ length (nfd xs)
some_nfd [] some = absurd (omega arith)
some_nfd (c ∷ cs) some =
    let parts : 1 ≤ length (decompose_canonical c) = (length-from_decompose Nfd c (decompose_canonical c) refl).0 in
    let whole : length (nfd (c ∷ cs)) ≡ length (flat_map decompose_canonical (c ∷ cs)) = ap length (nfd-is (c ∷ cs)) ∙ length-canonical_order (flat_map decompose_canonical (c ∷ cs)) in
    omega (arith, whole, ap length (flat_map-cons decompose_canonical c cs), length-append (decompose_canonical c) (flat_map decompose_canonical cs))

pub ends_long : (xs : List ℕ) → 0 < length xs → MAX_RUN < longest_run (nfd xs) → (at : ℕ) → (rest : List RuleFault) × (end_faults at xs ≡ record { at = at; cause = text.long_run } ∷ rest)
ends_long [] some long at = absurd (omega arith)
ends_long (c ∷ cs) some long at =
    let too_long : List RuleFault = fault_if (nat_lt MAX_KEY (length (nfd (c ∷ cs)))) text.key_too_long at in
    (too_long, ap (λ b. fault_if b text.long_run at ++ too_long) (ap not (is_safe-nfd (c ∷ cs) ∙ (let h : nat_le (longest_run (nfd (c ∷ cs))) MAX_RUN ≡ false = grind (arith, nat_tests) in h))))

short_runs : (xs : List ℕ) → longest_run (nfd xs) ≤ MAX_RUN → not (is_safe (nfd xs)) ≡ false
short_runs xs short = ap not (is_safe-nfd xs ∙ le-leb (longest_run (nfd xs)) MAX_RUN short)

pub ends_many : (xs : List ℕ) → 0 < length xs → longest_run (nfd xs) ≤ MAX_RUN → MAX_KEY < length (nfd xs) → (at : ℕ) → (rest : List RuleFault) × (end_faults at xs ≡ record { at = at; cause = text.key_too_long } ∷ rest)
ends_many [] some short many at = absurd (omega arith)
ends_many (c ∷ cs) some short many at = ([], ap₂ (λ a b. fault_if a text.long_run at ++ fault_if b text.key_too_long at) (short_runs (c ∷ cs) short) (let h : nat_lt MAX_KEY (length (nfd (c ∷ cs))) ≡ true = grind (arith, nat_tests) in h))

pub ends_fine : (xs : List ℕ) → 0 < length xs → longest_run (nfd xs) ≤ MAX_RUN → length (nfd xs) ≤ MAX_KEY → (at : ℕ) → end_faults at xs ≡ []
ends_fine [] some short few at = absurd (omega arith)
ends_fine (c ∷ cs) some short few at = ap₂ (λ a b. fault_if a text.long_run at ++ fault_if b text.key_too_long at) (short_runs (c ∷ cs) short) (le-ltb MAX_KEY (length (nfd (c ∷ cs))) few)

-- a fault at the place where a piece begins
pub same_place : (f_at at n : ℕ) (cause : RuleCause) → at ≡ n → MatchOption (reported_text_cause cause) (f_at ≡ 0) (λ _. f_at ≡ at) → MatchOption (reported_text_cause cause) (f_at ≡ 0) (λ _. f_at ≡ n)
same_place f_at at n cause e is = subst (λ m. MatchOption (reported_text_cause cause) (f_at ≡ 0) (λ _. f_at ≡ m)) e is
