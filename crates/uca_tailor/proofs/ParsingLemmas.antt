-- How relations, chains and rules are read, string by string.
use Rattle.std.proofs.Common.{◌≡◌, ◌≢◌, ℕ, ◌+◌, ◌<◌, ◌≤◌, ◌==◌, Bool, true, false, List, [], ◌∷◌, ◌++◌, length, map, flat_map, All, Option, Some, None, Result, Ok, Err, MatchOption, is_ok, is_err, append-nil, append_assoc, length-append, refl, sym, ap, subst, ◌∙◌, arith}
use Rattle.std.proofs.lemmas.List.{map-append, length-map}
use Rattle.std.proofs.lemmas.Bool.Decides.{nat_tests}
use Rattle.std.proofs.lemmas.List.Concat.{flat_map-append}
use Rattle.std.proofs.lemmas.List.Elements.{All-push}
use Rattle.uca_weights.specs.declared.limits.TheConstants.{MAX_RELATIONS}
use Rattle.uca_model.specs.Rules as rules
use Rattle.uca_model.specs.Rules.{IsRelation, IsChain, items}
use Rattle.uca_model.specs.RuleText as text
use Rattle.uca_model.specs.RuleText.{RuleFault, leading_faults, segment_faults, no_item, item, nothing, resets, relates, grouped, fault_if, too_many_relations, first_or, rules_of, faults, segments, parts}
use Rattle.uca_tailor.proofs.StringLemmas.{some_faults}
use Rattle.uca_tailor.specs.Chains.{operator_of, relation_of, chain_of}
use Rattle.uca_tailor.specs.Faults.{reported_text_cause, RefusesText}
use Rattle.uca_tailor.specs.Scan.{ScanState, scan_of}
use Rattle.uca_tailor.specs.Strings.{left_of, segments_from, BeginsWith, BeginsAt}
use Rattle.uca_tailor.specs.Parsed.{expands_here, is_expansion, left_out_here, is_left_out_next, resets_here, IsRelationNext, after_faults, with_relation, ReadsRelation, ReadsChain}
use Rattle.uca_tailor.specs.declared.faults.RuleCause.{RuleCause}
use Rattle.uca_tailor.specs.declared.faults.RuleCause.TheVariants as fault_cause
use Rattle.uca_tailor.specs.declared.faults.RuleFault as declared
use Rattle.uca_tailor.specs.declared.rules.Chain.{Chain}
use Rattle.uca_tailor.specs.declared.rules.Op.{Op}
use Rattle.uca_tailor.specs.declared.rules.Relation.{Relation}
use Rattle.uca_tailor.specs.declared.strings.Found.{Found}
use Rattle.uca_tailor.specs.declared.pieces.Operator.{Operator}
use Rattle.uca_tailor.specs.declared.pieces.Operator.TheVariants as operator

-- Faults

-- more faults after the first
pub begins-more : (f : declared.RuleFault) (xs ys : List RuleFault) → BeginsWith f xs → BeginsWith f (xs ++ ys)
begins-more f xs ys begins = go (reported_text_cause f.cause) begins
  where
    go : (o : Option text.RuleCause) → MatchOption o (f.at ≡ 0) (λ cause. (rest : List RuleFault) × (xs ≡ record { at = f.at; cause = cause } ∷ rest)) → MatchOption o (f.at ≡ 0) (λ cause. (rest : List RuleFault) × (xs ++ ys ≡ record { at = f.at; cause = cause } ∷ rest))
    go None e = e
    go (Some cause) (rest, e) = (rest ++ ys, ap (λ zs. zs ++ ys) e)

-- a fault at its byte
pub begins-at : (f : declared.RuleFault) (at : ℕ) (cause : RuleCause) (xs : List RuleFault) → f.cause ≡ cause → MatchOption (reported_text_cause cause) (f.at ≡ 0) (λ _. f.at ≡ at) → BeginsAt at cause xs → BeginsWith f xs
begins-at f at cause xs is place begins = subst (λ c. MatchOption (reported_text_cause c) (f.at ≡ 0) (λ cause. (rest : List RuleFault) × (xs ≡ record { at = f.at; cause = cause } ∷ rest))) (sym is) (go (reported_text_cause cause) place begins)
  where
    go : (o : Option text.RuleCause) → MatchOption o (f.at ≡ 0) (λ _. f.at ≡ at) → MatchOption o (Unit {0}) (λ stated. (rest : List RuleFault) × (xs ≡ record { at = at; cause = stated } ∷ rest)) → MatchOption o (f.at ≡ 0) (λ cause. (rest : List RuleFault) × (xs ≡ record { at = f.at; cause = cause } ∷ rest))
    go None e u = e
    go (Some cause) e (rest, is) = (rest, is ∙ ap (λ n. let g : RuleFault = record { at = n; cause = cause } in g ∷ rest) (sym e))

pub begins-same : (f : declared.RuleFault) (xs ys : List RuleFault) → xs ≡ ys → BeginsWith f ys → BeginsWith f xs
begins-same f xs ys e begins = subst (BeginsWith f) (sym e) begins

-- the text is refused for the fault that is met first
pub refuses_text : (f : declared.RuleFault) (cs : List ℕ) → BeginsWith f (faults (segments (parts cs))) → RefusesText (rules_of cs) f
unfolding rules_of
refuses_text f cs begins = go (reported_text_cause f.cause) begins
  where
    go : (o : Option text.RuleCause) → MatchOption o (f.at ≡ 0) (λ cause. (rest : List RuleFault) × (faults (segments (parts cs)) ≡ record { at = f.at; cause = cause } ∷ rest)) → MatchOption o (f.at ≡ 0) (λ cause. rules_of cs ≡ Err (record { at = f.at; cause = cause }))
    go None e = e
    go (Some cause) (rest, e) = ap (λ fs. first_or fs (grouped (segments (parts cs)).all).chains) e

-- Strings

-- Relations

-- where no expansion follows, an item and an expansion are one before what follows
same_before-at : (o : Operator) (at : ℕ) (t : ScanState) (n : ℕ) → expands_here o ≡ false → segment_faults item n (segments_from (Some (record { operator = o; at = at })) t) ≡ segment_faults no_item n (segments_from (Some (record { operator = o; at = at })) t)
same_before-at operator.Reset at t n is = refl
same_before-at (operator.Relation op) at t n is = refl
same_before-at operator.LeftOut at t n is = refl
same_before-at operator.Expansion at t n is = cc

same_before : (found : Option Found) (t : ScanState) (n : ℕ) → is_expansion found ≡ false → segment_faults item n (segments_from found t) ≡ segment_faults no_item n (segments_from found t)
same_before None t n is = refl
same_before (Some f) t n is = same_before-at f.operator f.at t n is

-- and what follows says no expansion
no_expansion-at : (o : Operator) (at : ℕ) (t : ScanState) → expands_here o ≡ false → left_out_here o ≡ false → (grouped (segments_from (Some (record { operator = o; at = at })) t)).expansion ≡ []
no_expansion-at operator.Reset at t is other = refl
no_expansion-at (operator.Relation op) at t is other = refl
no_expansion-at operator.LeftOut at t is other = cc
no_expansion-at operator.Expansion at t is other = cc

no_expansion : (found : Option Found) (t : ScanState) → is_expansion found ≡ false → is_left_out_next found ≡ false → (grouped (segments_from found t)).expansion ≡ []
no_expansion None t is other = refl
no_expansion (Some f) t is other = no_expansion-at f.operator f.at t is other

-- Chains

-- the relations of a chain so far, whose reset comes before s
pub record InChain (s : ScanState) (count : ℕ) (relations : List Relation) (next : Option Found) (t : ScanState) : Type 0 where
  pub are_relations : All IsRelation (map relation_of relations)
  pub faults : after_faults resets count s ≡ segment_faults no_item (count + length relations) (segments_from next t)
  pub says : is_left_out_next next ≡ false → (grouped (left_of s).all).relations ≡ map relation_of relations ++ (grouped (segments_from next t)).relations
  pub chains : is_left_out_next next ≡ false → (grouped (left_of s).all).chains ≡ (grouped (segments_from next t)).chains
  pub room : count + length relations ≤ MAX_RELATIONS
  pub fewer : length (segments_from next t) ≤ length (left_of s).all

-- the faults at a relation's operator that has none
relation_fine : (next : Option Found) (n : ℕ) (op : Op) (t : ScanState) → IsRelationNext next n op → segment_faults no_item n (segments_from next t) ≡ after_faults (relates (operator_of op)) n t
relation_fine next n op t is =
    ap (λ f. segment_faults no_item n (segments_from f t)) is.is
    ∙ ap (λ b. fault_if b too_many_relations is.at ++ after_faults (relates (operator_of op)) n t) is.room

pub chain_more : (s t u : ScanState) (count : ℕ) (relations : List Relation) (next found : Option Found) (op : Op) (r : Relation) → InChain s count relations next t → IsRelationNext next (count + length relations) op → ReadsRelation t op r found u → InChain s count (relations ++ r ∷ []) found u
chain_more s t u count relations next found op r is here reads =
    let one : Option Found = Some (record { operator = operator.Relation op; at = here.at }) in
    let next_fine : is_left_out_next next ≡ false = ap is_left_out_next here.is in
    let whole : is_left_out_next found ≡ false → grouped (segments_from next t) ≡ with_relation (relation_of r) (grouped (segments_from found u)) = λ other. ap (λ f. grouped (segments_from f t)) here.is ∙ reads.says here.at other in
    let longer : length (relations ++ r ∷ []) ≡ length relations + 1 = length-append relations (r ∷ []) in
    let low : count + length relations < MAX_RELATIONS = not_full (count + length relations) is.room here.room in
    record {
      are_relations = subst (All IsRelation) (sym (map-append relation_of relations (r ∷ []))) (All-push IsRelation (map relation_of relations) (relation_of r) is.are_relations reads.is_relation);
      faults = is.faults ∙ relation_fine next (count + length relations) op t here ∙ reads.faults (count + length relations) ∙ ap (λ n. segment_faults no_item n (segments_from found u)) (let e : count + length relations + 1 ≡ count + length (relations ++ r ∷ []) = omega (arith, longer) in e);
      says = λ other.
          is.says next_fine ∙ ap (λ g. map relation_of relations ++ g.relations) (whole other)
          ∙ sym (append_assoc (map relation_of relations) (relation_of r ∷ []) (grouped (segments_from found u)).relations)
          ∙ ap (λ rs. rs ++ (grouped (segments_from found u)).relations) (sym (map-append relation_of relations (r ∷ [])));
      chains = λ other. is.chains next_fine ∙ ap (λ g. g.chains) (whole other);
      room = omega (arith, longer);
      fewer = (
          let counts : length (segments_from next t) ≡ length (left_of t).all + 1 = ap (λ f. length (segments_from f t)) here.is ∙ (let e : length (segments_from one t) ≡ length (left_of t).all + 1 = omega arith in e) in
          omega (arith, is.fewer, reads.fewer, counts));
    }
  where
    not_full : (n : ℕ) → n ≤ MAX_RELATIONS → (n == MAX_RELATIONS) ≡ false → n < MAX_RELATIONS
    not_full n low other = grind (arith, nat_tests)

-- a relation's fault is the first of its chain
pub chain_refused : (f : declared.RuleFault) (s t : ScanState) (count : ℕ) (relations : List Relation) (next : Option Found) (op : Op) → InChain s count relations next t → IsRelationNext next (count + length relations) op → ((n : ℕ) → BeginsWith f (after_faults (relates (operator_of op)) n t)) → BeginsWith f (after_faults resets count s)
chain_refused f s t count relations next op is here begins =
    begins-same f _ _ (is.faults ∙ relation_fine next (count + length relations) op t here) (begins (count + length relations))

-- Rules

-- the chains of a text so far
pub record InRules (cs : List ℕ) (chains : List Chain) (count : ℕ) (next : Option Found) (t : ScanState) : Type 0 where
  pub are_chains : All IsChain (map chain_of chains)
  pub counts : count ≡ length (items (map chain_of chains))
  pub room : count ≤ MAX_RELATIONS
  pub fine : faults (segments (parts cs)) ≡ segment_faults nothing count (segments_from next t)
  pub says : (grouped (segments (parts cs)).all).chains ≡ map chain_of chains ++ (grouped (segments_from next t)).chains

-- a reset is next
reset_fine : (next : Option Found) (f : Found) (t : ScanState) (count : ℕ) → next ≡ Some f → f.operator ≡ operator.Reset → segment_faults nothing count (segments_from next t) ≡ after_faults resets count t
reset_fine next f t count is resets_now =
    ap (λ g. segment_faults nothing count (segments_from g t)) is
    ∙ ap (λ o. let g : Found = record { operator = o; at = f.at } in segment_faults nothing count (segments_from (Some g) t)) resets_now

pub rules_more : (cs : List ℕ) (chains : List Chain) (count : ℕ) (next found : Option Found) (f : Found) (t u : ScanState) (c : Chain) → InRules cs chains count next t → next ≡ Some f → f.operator ≡ operator.Reset → ReadsChain t count c found u → InRules cs (chains ++ c ∷ []) (count + length c.relations.items) found u
rules_more cs chains count next found f t u c is here resets_now reads =
    let more : map chain_of (chains ++ c ∷ []) ≡ map chain_of chains ++ chain_of c ∷ [] = map-append chain_of chains (c ∷ []) in
    record {
      are_chains = subst (All IsChain) (sym more) (All-push IsChain (map chain_of chains) (chain_of c) is.are_chains reads.is_chain);
      counts = (
          let all : items (map chain_of (chains ++ c ∷ [])) ≡ items (map chain_of chains) ++ items (chain_of c ∷ []) = ap items more ∙ flat_map-append (λ d. map (λ r. r.item) d.relations) (map chain_of chains) (chain_of c ∷ []) in
          let one : length (items (chain_of c ∷ [])) ≡ length c.relations.items = ap length (append-nil (map (λ r. r.item) (map relation_of c.relations.items))) ∙ length-map (map relation_of c.relations.items) (λ r. r.item) ∙ length-map c.relations.items relation_of in
          omega (arith, is.counts, ap length all, length-append (items (map chain_of chains)) (items (chain_of c ∷ [])), one));
      room = reads.room;
      fine = is.fine ∙ reset_fine next f t count here resets_now ∙ reads.faults;
      says =
          is.says ∙ ap (λ g. map chain_of chains ++ (grouped (segments_from g t)).chains) here
          ∙ ap (λ o. let g : Found = record { operator = o; at = f.at } in map chain_of chains ++ (grouped (segments_from (Some g) t)).chains) resets_now
          ∙ ap (λ ds. map chain_of chains ++ ds) (reads.says f.at)
          ∙ sym (append_assoc (map chain_of chains) (chain_of c ∷ []) (grouped (segments_from found u)).chains)
          ∙ ap (λ ds. ds ++ (grouped (segments_from found u)).chains) (sym more);
    }

-- a fault of a chain is the first of the text
pub rules_refused : (f : declared.RuleFault) (cs : List ℕ) (chains : List Chain) (count : ℕ) (next : Option Found) (g : Found) (t : ScanState) → InRules cs chains count next t → next ≡ Some g → g.operator ≡ operator.Reset → BeginsWith f (after_faults resets count t) → RefusesText (rules_of cs) f
rules_refused f cs chains count next g t is here resets_now begins = refuses_text f cs (begins-same f _ _ (is.fine ∙ reset_fine next g t count here resets_now) begins)

-- an operator before the first reset
pub rules_stopped : (f : declared.RuleFault) (cs : List ℕ) (chains : List Chain) (count : ℕ) (next : Option Found) (t : ScanState) → InRules cs chains count next t → BeginsWith f (segment_faults nothing count (segments_from next t)) → RefusesText (rules_of cs) f
rules_stopped f cs chains count next t is begins = refuses_text f cs (begins-same f _ _ is.fine begins)

pub no_reset : (o : Operator) (at : ℕ) (t : ScanState) (count : ℕ) → resets_here o ≡ false → (rest : List RuleFault) × (segment_faults nothing count (segments_from (Some (record { operator = o; at = at })) t) ≡ record { at = at; cause = text.syntax } ∷ rest)
no_reset operator.Reset at t count is = cc
no_reset (operator.Relation op) at t count is = (_, refl)
no_reset operator.LeftOut at t count is = (_, refl)
no_reset operator.Expansion at t count is = (_, refl)

-- a fault before the first operator
pub leading_refused : (f : declared.RuleFault) (cs : List ℕ) → BeginsWith f (flat_map leading_faults (left_of (scan_of cs)).leading) → RefusesText (rules_of cs) f
leading_refused f cs begins = refuses_text f cs (begins-more f (flat_map leading_faults (left_of (scan_of cs)).leading) (segment_faults nothing 0 (segments (parts cs)).all) begins)

-- the end of the text
pub rules_end : (cs : List ℕ) (chains : List Chain) (count : ℕ) (next : Option Found) (t : ScanState) → InRules cs chains count next t → next ≡ None → rules_of cs ≡ Ok (map chain_of chains)
unfolding rules_of
rules_end cs chains count next t is none =
    let fine : faults (segments (parts cs)) ≡ [] = is.fine ∙ ap (λ g. segment_faults nothing count (segments_from g t)) none in
    ap (λ fs. first_or fs (grouped (segments (parts cs)).all).chains) fine
    ∙ ap Ok (is.says ∙ ap (λ g. map chain_of chains ++ (grouped (segments_from g t)).chains) none ∙ append-nil (map chain_of chains))

pub reset_from : (o : Operator) → resets_here o ≡ true → o ≡ operator.Reset
reset_from operator.Reset is = refl
reset_from (operator.Relation op) is = cc
reset_from operator.LeftOut is = cc
reset_from operator.Expansion is = cc

-- Texts that say something: a chain, or a fault

first-some : (fs : List RuleFault) (cs : List rules.Chain) → (fs ≡ [] → cs ≢ []) → first_or fs cs ≢ Ok []
first-some [] cs some = λ same. (let none : cs ≡ [] = cc in some refl none)
first-some (f ∷ fs) cs some = λ same. cc

-- a fault before the first operator
pub leading_some : (cs : List ℕ) → flat_map leading_faults (left_of (scan_of cs)).leading ≢ [] → rules_of cs ≢ Ok []
unfolding rules_of
leading_some cs some = first-some (faults (segments (parts cs))) _ (λ none. absurd (some (front-none (flat_map leading_faults (left_of (scan_of cs)).leading) _ none)))
  where
    front-none : (xs ys : List RuleFault) → xs ++ ys ≡ [] → xs ≡ []
    front-none [] ys e = refl
    front-none (x ∷ xs) ys e = cc

-- an operator
pub operator_some : (cs : List ℕ) (chains : List Chain) (count : ℕ) (next : Option Found) (g : Found) (t : ScanState) → InRules cs chains count next t → next ≡ Some g → rules_of cs ≢ Ok []
unfolding rules_of
operator_some cs chains count next g t is here = first-some (faults (segments (parts cs))) _ (λ none said. by_operator g.operator refl none said)
  where
    after-some : (xs ys : List rules.Chain) (y : rules.Chain) → xs ++ y ∷ ys ≢ []
    after-some [] ys y = λ e. cc
    after-some (x ∷ xs) ys y = λ e. cc

    fault_here : (o : Operator) → g.operator ≡ o → faults (segments (parts cs)) ≡ [] → segment_faults nothing count (segments_from (Some (record { operator = o; at = g.at })) t) ≡ []
    fault_here o e none =
        sym (ap (λ n. segment_faults nothing count (segments_from n t)) here ∙ ap (λ o. let f : Found = record { operator = o; at = g.at } in segment_faults nothing count (segments_from (Some f) t)) e)
        ∙ sym is.fine ∙ none

    by_operator : (o : Operator) → g.operator ≡ o → faults (segments (parts cs)) ≡ [] → (grouped (segments (parts cs)).all).chains ≢ []
    by_operator operator.Reset e none = λ said.
        after-some (map chain_of chains) (grouped (left_of t).all).chains _
        (sym (ap (λ n. map chain_of chains ++ (grouped (segments_from n t)).chains) here ∙ ap (λ o. let f : Found = record { operator = o; at = g.at } in map chain_of chains ++ (grouped (segments_from (Some f) t)).chains) e) ∙ sym is.says ∙ said)
    by_operator (operator.Relation op) e none = absurd (some_faults _ _ (no_reset (operator.Relation op) g.at t count refl) (fault_here (operator.Relation op) e none))
    by_operator operator.LeftOut e none = absurd (some_faults _ _ (no_reset operator.LeftOut g.at t count refl) (fault_here operator.LeftOut e none))
    by_operator operator.Expansion e none = absurd (some_faults _ _ (no_reset operator.Expansion g.at t count refl) (fault_here operator.Expansion e none))

-- a push that is no error
pub pushed : {A B : Type 0} (r : Result A B) (b : Bool) → b ≡ is_err r → b ≡ false → is_ok r ≡ true
pushed (Ok a) b e f = refl
pushed (Err x) b e f = cc

-- an operator before the first reset has the fault of the text
pub before_reset : (f : declared.RuleFault) (cs : List ℕ) (chains : List Chain) (count : ℕ) (next : Option Found) (g : Found) (t : ScanState) → InRules cs chains count next t → next ≡ Some g → resets_here g.operator ≡ false → f.cause ≡ fault_cause.Syntax → f.at ≡ g.at → RefusesText (rules_of cs) f
before_reset f cs chains count next g t is here other is_syntax place =
    rules_stopped f cs chains count next t is
    (subst (λ n. BeginsWith f (segment_faults nothing count (segments_from n t))) (sym here)
    (begins-at f g.at fault_cause.Syntax (segment_faults nothing count (segments_from (Some g) t)) is_syntax place (no_reset g.operator g.at t count other)))
