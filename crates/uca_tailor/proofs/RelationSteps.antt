-- One relation after the other.
use Rattle.std.proofs.Common.{◌≡◌, ℕ, ◌+◌, ◌≤◌, ◌<◌, cond, is_some, List, [], ◌∷◌, length, drop, map, get_or, Option, Some, None, Result, Ok, Err, MatchOption, refl, sym, ap, subst, ◌∙◌, arith}
use Rattle.std.proofs.lemmas.List.{drop_more, length-append, length-map, get_or-map, drop_all}
use Rattle.std.proofs.lemmas.List.Elements.{All-get_or}
use Rattle.std.specs.List.{All}
use Rattle.uca_weights.specs.declared.element.Element.{Element}
use Rattle.uca_model.specs.CollationElements.{elements}
use Rattle.uca_model.specs.Rules.{Relation, Chain, items, IsRelation, IsChain}
use Rattle.uca_model.specs.Table.{ElementTable}
use Rattle.uca_model.specs.TableText.{◌>>=◌}
use Rattle.uca_model.specs.Tailoring.{TailorCause, TailorFault, related, at_relation, related_all, tailored_from}
use Rattle.uca_tailor.specs.declared.faults.TailorCause.{TailorCause as Cause}
use Rattle.uca_tailor.specs.declared.faults.TailorFault.{TailorFault as Fault}
use Rattle.uca_tailor.specs.declared.rules.Relation.{Relation as RelationParts}
use Rattle.uca_tailor.specs.declared.rules.Chain.{Chain as ChainParts}
use Rattle.uca_tailor.specs.Chains.{relation_of, chain_of}
use Rattle.uca_tailor.specs.Faults.{reported_cause, RefusesRelation}
use Rattle.uca_tailor.specs.Steps.{related_as, Refuses}

-- The relations of a chain

first_refused : (o : Option TailorCause) (at n : ℕ) (t : ElementTable) (anchor : List Element) (r : Relation) (rs : List Relation) → at ≡ cond (is_some o) (n + 1) 0 → MatchOption o (Unit {0}) (λ c. related t anchor r ≡ Err c)
    → MatchOption o (at ≡ 0) (λ c. related_all n t anchor (r ∷ rs) ≡ Err (record { relation = at; cause = c }))
unfolding related_all
first_refused None at n t anchor r rs is h = is
first_refused (Some c) at n t anchor r rs is h = ap (λ x. at_relation (n + 1) x >>= λ next. related_all (n + 1) next.table next.anchor rs) h ∙ ap (λ k. Err (record { relation = k; cause = c })) (sym is)

pub relation_refused : (n m : ℕ) (t : ElementTable) (anchor : List Element) (r : Relation) (rs : List Relation) (cause : Cause) (f : Fault) (whole : Result ElementTable TailorFault) → m ≡ n + 1
    → f.cause ≡ cause → f.relation ≡ cond (is_some (reported_cause cause)) m 0 → Refuses (related t anchor r) cause → related_all n t anchor (r ∷ rs) ≡ whole → RefusesRelation whole f
relation_refused n m t anchor r rs cause f whole next is at h e =
    let refused = first_refused (reported_cause cause) f.relation n t anchor r rs (at ∙ ap (λ k. cond (is_some (reported_cause cause)) k 0) next) h in
    subst (λ x. RefusesRelation x f) e (subst (λ c. MatchOption (reported_cause c) (f.relation ≡ 0) (λ d. related_all n t anchor (r ∷ rs) ≡ Err (record { relation = f.relation; cause = d }))) (sym is) refused)

related_all-step : (n : ℕ) (t u : ElementTable) (anchor next : List Element) (r : Relation) (rs : List Relation) → related t anchor r ≡ Ok (related_as u next) → related_all n t anchor (r ∷ rs) ≡ related_all (n + 1) u next rs
unfolding related_all
related_all-step n t u anchor next r rs e = ap (λ x. at_relation (n + 1) x >>= λ z. related_all (n + 1) z.table z.anchor rs) e

pub relation_applied : (n : ℕ) (t u : ElementTable) (anchor next : List Element) (r : Relation) (rs : List Relation) (whole : Result ElementTable TailorFault) → related t anchor r ≡ Ok (related_as u next) → related_all n t anchor (r ∷ rs) ≡ whole → related_all (n + 1) u next rs ≡ whole
relation_applied n t u anchor next r rs whole h e = sym (related_all-step n t u anchor next r rs h) ∙ e

related_all-nil : (n : ℕ) (t : ElementTable) (anchor : List Element) → related_all n t anchor [] ≡ Ok t
unfolding related_all
related_all-nil n t anchor = refl

pub relations_done : (n : ℕ) (t : ElementTable) (anchor : List Element) (rs : List RelationParts) (i : ℕ) (whole : Result ElementTable TailorFault) → length rs ≤ i → related_all n t anchor (map relation_of (drop i rs)) ≡ whole → whole ≡ Ok t
relations_done n t anchor rs i whole h e = sym e ∙ ap (λ x. related_all n t anchor (map relation_of x)) (drop_all i rs h) ∙ related_all-nil n t anchor

pub next_relation : (n : ℕ) (t : ElementTable) (anchor : List Element) (rs : List RelationParts) (i : ℕ) (r : RelationParts) (whole : Result ElementTable TailorFault) → i < length rs → r ≡ get_or rs i r → related_all n t anchor (map relation_of (drop i rs)) ≡ whole → related_all n t anchor (relation_of r ∷ map relation_of (drop (i + 1) rs)) ≡ whole
next_relation n t anchor rs i r whole h is e = ap (λ xs. related_all n t anchor (map relation_of xs)) (sym (drop_more rs i r h ∙ ap (λ x. x ∷ drop (i + 1) rs) (sym is))) ∙ e

pub valid_relation : (rs : List RelationParts) (i : ℕ) (r : RelationParts) → i < length rs → r ≡ get_or rs i r → All IsRelation (map relation_of rs) → IsRelation (relation_of r)
valid_relation rs i r h is all =
    let size : length (map relation_of rs) ≡ length rs = length-map rs relation_of in
    subst IsRelation (get_or-map relation_of rs i r (relation_of r) h ∙ ap relation_of (sym is)) (All-get_or IsRelation (map relation_of rs) i (relation_of r) (omega (arith, size)) all)

-- All chains

chain_refused_on : (o : Option TailorCause) (at : ℕ) (says : Result ElementTable TailorFault) (next : ElementTable → Result ElementTable TailorFault) → MatchOption o (at ≡ 0) (λ c. says ≡ Err (record { relation = at; cause = c })) → MatchOption o (at ≡ 0) (λ c. (says >>= next) ≡ Err (record { relation = at; cause = c }))
chain_refused_on None at says next h = h
chain_refused_on (Some c) at says next h = ap (λ x. x >>= next) h

first_chain_refused : (n : ℕ) (t : ElementTable) (c : Chain) (cs : List Chain) (f : Fault) → RefusesRelation (related_all n t (elements t c.reset) c.relations) f → RefusesRelation (tailored_from n t (c ∷ cs)) f
unfolding tailored_from
first_chain_refused n t c cs f h = chain_refused_on (reported_cause f.cause) f.relation (related_all n t (elements t c.reset) c.relations) (λ next. tailored_from (n + length c.relations) next cs) h

pub chain_refused : (n : ℕ) (t : ElementTable) (reset : List Element) (c : Chain) (cs : List Chain) (f : Fault) (whole : Result ElementTable TailorFault) → reset ≡ elements t c.reset → RefusesRelation (related_all n t reset c.relations) f → tailored_from n t (c ∷ cs) ≡ whole → RefusesRelation whole f
chain_refused n t reset c cs f whole is h e = subst (λ x. RefusesRelation x f) e (first_chain_refused n t c cs f (subst (λ x. RefusesRelation (related_all n t x c.relations) f) is h))

tailored_from-step : (n : ℕ) (t u : ElementTable) (c : Chain) (cs : List Chain) → related_all n t (elements t c.reset) c.relations ≡ Ok u → tailored_from n t (c ∷ cs) ≡ tailored_from (n + length c.relations) u cs
unfolding tailored_from
tailored_from-step n t u c cs e = ap (λ x. x >>= λ next. tailored_from (n + length c.relations) next cs) e

pub chain_applied : (n m : ℕ) (t u : ElementTable) (reset : List Element) (c : Chain) (cs : List Chain) (whole : Result ElementTable TailorFault) → reset ≡ elements t c.reset → m ≡ length c.relations → related_all n t reset c.relations ≡ Ok u → tailored_from n t (c ∷ cs) ≡ whole → tailored_from (n + m) u cs ≡ whole
chain_applied n m t u reset c cs whole is size h e = ap (λ x. tailored_from (n + x) u cs) size ∙ sym (tailored_from-step n t u c cs (subst (λ x. related_all n t x c.relations ≡ Ok u) is h)) ∙ e

tailored_from-nil : (n : ℕ) (t : ElementTable) → tailored_from n t [] ≡ Ok t
unfolding tailored_from
tailored_from-nil n t = refl

pub chains_done : (n : ℕ) (t : ElementTable) (cs : List ChainParts) (i : ℕ) (whole : Result ElementTable TailorFault) → length cs ≤ i → tailored_from n t (map chain_of (drop i cs)) ≡ whole → whole ≡ Ok t
chains_done n t cs i whole h e = sym e ∙ ap (λ x. tailored_from n t (map chain_of x)) (drop_all i cs h) ∙ tailored_from-nil n t

chains_cons : (cs : List ChainParts) (i : ℕ) (c : ChainParts) → i < length cs → c ≡ get_or cs i c → chain_of c ∷ map chain_of (drop (i + 1) cs) ≡ map chain_of (drop i cs)
chains_cons cs i c h is = sym (ap (map chain_of) (drop_more cs i c h ∙ ap (λ x. x ∷ drop (i + 1) cs) (sym is)))

pub next_chain : (n : ℕ) (t : ElementTable) (cs : List ChainParts) (i : ℕ) (c : ChainParts) (whole : Result ElementTable TailorFault) → i < length cs → c ≡ get_or cs i c → tailored_from n t (map chain_of (drop i cs)) ≡ whole → tailored_from n t (chain_of c ∷ map chain_of (drop (i + 1) cs)) ≡ whole
next_chain n t cs i c whole h is e = ap (tailored_from n t) (chains_cons cs i c h is) ∙ e

pub valid_chain : (cs : List ChainParts) (i : ℕ) (c : ChainParts) → i < length cs → c ≡ get_or cs i c → All IsChain (map chain_of cs) → IsChain (chain_of c)
valid_chain cs i c h is all =
    let size : length (map chain_of cs) ≡ length cs = length-map cs chain_of in
    subst IsChain (get_or-map chain_of cs i c (chain_of c) h ∙ ap chain_of (sym is)) (All-get_or IsChain (map chain_of cs) i (chain_of c) (omega (arith, size)) all)

-- the relations of the chains that are left
pub items_left : (cs : List ChainParts) (i : ℕ) (c : ChainParts) → i < length cs → c ≡ get_or cs i c → length (items (map chain_of (drop i cs))) ≡ length c.relations.items + length (items (map chain_of (drop (i + 1) cs)))
items_left cs i c h is =
    ap (λ xs. length (items xs)) (sym (chains_cons cs i c h is))
    ∙ length-append (map (λ r. r.item) (chain_of c).relations) (items (map chain_of (drop (i + 1) cs)))
    ∙ ap (λ n. n + length (items (map chain_of (drop (i + 1) cs)))) (length-map (chain_of c).relations (λ r. r.item) ∙ length-map c.relations.items relation_of)
