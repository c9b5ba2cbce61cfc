-- A chain of rules comes out in the order in which it is written.
use Rattle.std.proofs.Common.{◌≡◌, ℕ, ◌+◌, ◌≤◌, min, List, [], ◌∷◌, ◌++◌, length, Ok, refl, sym, ap, subst, ◌∙◌, arith, inl, inr}
use Rattle.std.proofs.lemmas.Bool.{cases_lt}
use Rattle.std.proofs.lemmas.Cmp.{nat_list_cmp_total}
use Rattle.std.proofs.lemmas.Map.Lookups.{exact_bytes}
use Rattle.std.specs.Prelude.{Result, Err}
use Rattle.std.specs.declared.cmp.Ordering.TheVariants.{Less}
use Rattle.unicode_normalization.specs.Forms.{nfd}
use Rattle.uca_weights.specs.declared.element.Element.{Element}
use Rattle.uca_weights.specs.declared.settings.Strength.{Strength}
use Rattle.uca_weights.specs.declared.settings.Variable.TheVariants.{NonIgnorable}
use Rattle.uca_weights.specs.Settings.{levels}
use Rattle.uca_model.specs.Table.{ElementTable, IsTable}
use Rattle.uca_model.specs.CollationElements.{elements}
use Rattle.uca_model.specs.SortKey.{key_order}
use Rattle.uca_model.specs.Rules.{Relation, Chain}
use Rattle.uca_model.specs.TableText.{◌>>=◌}
use Rattle.uca_model.specs.Tailoring.{TailorCause, TailorFault, Related, related, at_relation, related_all, tailored_from, tailored}
use Rattle.uca_model.proofs.EquivalenceLemmas.{order-itself}
use Rattle.uca_tailor.specs.TailoringLaws.{plain_key, IsNext}
use Rattle.uca_tailor.specs.ChainLaws.{Place, chain, rules_after, string_before, EndPlain, Tailors, AreNeighbours, ComesBefore, NeighboursComeAsWritten, strongest, last_text, ChainsComeAsWritten}
use Rattle.uca_tailor.proofs.KeyAlone.{each_anchor}
use Rattle.uca_tailor.proofs.NextToAnchor.{each_next}
use Rattle.uca_tailor.proofs.Untouched.{untouched}

-- ## The numbers of relations do not matter where there is no fault

numbers_all : (n k : ℕ) (t : ElementTable) (a : List Element) (rs : List Relation) (u : ElementTable) → related_all n t a rs ≡ Ok u → related_all k t a rs ≡ Ok u
unfolding related_all
numbers_all n k t a [] u h = h
numbers_all n k t a (r ∷ rs) u h = by_step (λ next e. numbers_all (n + 1) (k + 1) next.table next.anchor rs u e) (related t a r) h
  where
    by_step : ((next : Related) → related_all (n + 1) next.table next.anchor rs ≡ Ok u → related_all (k + 1) next.table next.anchor rs ≡ Ok u) → (x : Result Related TailorCause) → (at_relation (n + 1) x >>= λ next. related_all (n + 1) next.table next.anchor rs) ≡ Ok u → (at_relation (k + 1) x >>= λ next. related_all (k + 1) next.table next.anchor rs) ≡ Ok u
    by_step more (Ok next) e = more next e
    by_step more (Err cause) e = cc

numbers_from : (n k : ℕ) (t : ElementTable) (cs : List Chain) (u : ElementTable) → tailored_from n t cs ≡ Ok u → tailored_from k t cs ≡ Ok u
unfolding tailored_from
numbers_from n k t [] u h = h
numbers_from n k t (c ∷ cs) u h = by_chain (λ m e. numbers_from (n + length c.relations) (k + length c.relations) m cs u e) (related_all n t (elements t c.reset) c.relations) refl h
  where
    by_chain : ((m : ElementTable) → tailored_from (n + length c.relations) m cs ≡ Ok u → tailored_from (k + length c.relations) m cs ≡ Ok u) → (x : Result ElementTable TailorFault) → related_all n t (elements t c.reset) c.relations ≡ x → (x >>= λ next. tailored_from (n + length c.relations) next cs) ≡ Ok u
        → (related_all k t (elements t c.reset) c.relations >>= λ next. tailored_from (k + length c.relations) next cs) ≡ Ok u
    by_chain more (Ok m) is e =
        ap (λ (y : Result ElementTable TailorFault). y >>= λ next. tailored_from (k + length c.relations) next cs) (numbers_all n k t (elements t c.reset) c.relations m is) ∙ more m e
    by_chain more (Err fault) is e = cc

-- ## Rules in two parts

record InParts (n : ℕ) (t : ElementTable) (front back : List Chain) (u : ElementTable) : Type 0 where
  middle : ElementTable
  first : tailored_from n t front ≡ Ok middle
  second : tailored_from 0 middle back ≡ Ok u

in_parts : (n : ℕ) (t : ElementTable) (front back : List Chain) (u : ElementTable) → tailored_from n t (front ++ back) ≡ Ok u → InParts n t front back u
unfolding tailored_from
in_parts n t [] back u h = record { middle = t; first = refl; second = numbers_from n 0 t back u h }
in_parts n t (c ∷ cs) back u h = by_chain (λ m e. in_parts (n + length c.relations) m cs back u e) (related_all n t (elements t c.reset) c.relations) refl h
  where
    by_chain : ((m : ElementTable) → tailored_from (n + length c.relations) m (cs ++ back) ≡ Ok u → InParts (n + length c.relations) m cs back u) → (x : Result ElementTable TailorFault) → related_all n t (elements t c.reset) c.relations ≡ x → (x >>= λ next. tailored_from (n + length c.relations) next (cs ++ back)) ≡ Ok u → InParts n t (c ∷ cs) back u
    by_chain more (Ok m) is e =
        let later = more m e in
        record {
          middle = later.middle;
          first = ap (λ (y : Result ElementTable TailorFault). y >>= λ next. tailored_from (n + length c.relations) next cs) is ∙ later.first;
          second = later.second;
        }
    by_chain more (Err fault) is e = cc

-- a chain, and others after it
record FirstChain (t : ElementTable) (c : Chain) (cs : List Chain) (u : ElementTable) : Type 0 where
  table : ElementTable
  relations : related_all 0 t (elements t c.reset) c.relations ≡ Ok table
  others : tailored_from 0 table cs ≡ Ok u

first_chain : (t : ElementTable) (c : Chain) (cs : List Chain) (u : ElementTable) → tailored_from 0 t (c ∷ cs) ≡ Ok u → FirstChain t c cs u
unfolding tailored_from
first_chain t c cs u h = by_chain (related_all 0 t (elements t c.reset) c.relations) refl h
  where
    by_chain : (x : Result ElementTable TailorFault) → related_all 0 t (elements t c.reset) c.relations ≡ x → (x >>= λ next. tailored_from (0 + length c.relations) next cs) ≡ Ok u → FirstChain t c cs u
    by_chain (Ok m) is e = record { table = m; relations = is; others = numbers_from (0 + length c.relations) 0 m cs u e }
    by_chain (Err fault) is e = cc

no_chain : (t u : ElementTable) → tailored_from 0 t [] ≡ Ok u → t ≡ u
unfolding tailored_from
no_chain t u h = cc

chain_with : (t : ElementTable) (c : Chain) (cs : List Chain) (m u : ElementTable) → related_all 0 t (elements t c.reset) c.relations ≡ Ok m → tailored_from 0 m cs ≡ Ok u → tailored_from 0 t (c ∷ cs) ≡ Ok u
unfolding tailored_from
chain_with t c cs m u is h =
    ap (λ (y : Result ElementTable TailorFault). y >>= λ next. tailored_from (0 + length c.relations) next cs) is ∙ numbers_from 0 (0 + length c.relations) m cs u h

-- ## A relation of a chain

-- a relation is reached: the table before it and its anchor, which are the elements of what comes before it
record IsReached (n : ℕ) (t : ElementTable) (a : List Element) (done : List Relation) (r : Relation) (rest : List Relation) (u : ElementTable) : Type 0 where
  table : ElementTable
  anchor : List Element
  next : Related
  before : related_all n t a done ≡ Ok table
  here : related table anchor r ≡ Ok next
  later : related_all 0 next.table next.anchor rest ≡ Ok u
  anchor_is : (reset : List ℕ) → EndPlain done → (done ≡ [] → a ≡ elements t reset) → anchor ≡ elements table (string_before reset done)

plain_parts : (q : Relation) (qs : List Relation) → EndPlain (q ∷ qs) → EndPlain qs × (qs ≡ [] → (1 ≤ length q.item) × (q.expansion ≡ []))
plain_parts q [] h = (tt, λ _. h)
plain_parts q (x ∷ xs) h = (h, λ none. cc)

reached : (n : ℕ) (t : ElementTable) (a : List Element) (done : List Relation) (r : Relation) (rest : List Relation) (u : ElementTable) → related_all n t a (done ++ r ∷ rest) ≡ Ok u → IsReached n t a done r rest u
unfolding related_all
reached n t a [] r rest u h = by_step (related t a r) refl h
  where
    by_step : (x : Result Related TailorCause) → related t a r ≡ x → (at_relation (n + 1) x >>= λ next. related_all (n + 1) next.table next.anchor rest) ≡ Ok u → IsReached n t a [] r rest u
    by_step (Ok next) is e = record { table = t; anchor = a; next = next; before = refl; here = is; later = numbers_all (n + 1) 0 next.table next.anchor rest u e; anchor_is = λ reset plain start. start refl }
    by_step (Err cause) is e = cc
reached n t a (q ∷ qs) r rest u h = by_step (λ m e. reached (n + 1) m.table m.anchor qs r rest u e) (related t a q) refl h
  where
    by_step : ((m : Related) → related_all (n + 1) m.table m.anchor (qs ++ r ∷ rest) ≡ Ok u → IsReached (n + 1) m.table m.anchor qs r rest u) → (x : Result Related TailorCause) → related t a q ≡ x → (at_relation (n + 1) x >>= λ next. related_all (n + 1) next.table next.anchor (qs ++ r ∷ rest)) ≡ Ok u → IsReached n t a (q ∷ qs) r rest u
    by_step more (Ok m) is e =
        let w = more m e in
        record {
          table = w.table;
          anchor = w.anchor;
          next = w.next;
          before = ap (λ (y : Result Related TailorCause). at_relation (n + 1) y >>= λ next. related_all (n + 1) next.table next.anchor qs) is ∙ w.before;
          here = w.here;
          later = w.later;
          anchor_is = λ reset plain start. (let parts = plain_parts q qs plain in w.anchor_is q.item parts.0 (λ none. sym (each_anchor t a q m (parts.1 none).0 (parts.1 none).1 is)));
        }
    by_step more (Err cause) is e = cc

-- ## Neighbours

-- right after the relation, and then under the last table
stay_in_order : (level : ℕ) (p : Place) (t0 u : ElementTable) (next : Related) (text item : List ℕ) → AreNeighbours level p t0 next.table u text item → IsTable t0 → IsTable next.table → related t0 (elements t0 (nfd text)) p.relation ≡ Ok next
    → tailored next.table (rules_after p) ≡ Ok u → ComesBefore level u text item
stay_in_order level p t0 u next text item h table_before table_through is later =
    let there : IsNext level next.table text item p.relation.item =
    each_next level t0 text item p.relation next table_before h.operator h.some h.text_scalars h.item_scalars h.item_is h.some_points h.plain h.well_formed is h.matches_stay h.not_matched in
    record {
      equal = λ s few. exact_bytes (plain_key u s text) (plain_key u s item) (same s ∙ ap (key_order (plain_key next.table s text)) (sym (there.equal s few)) ∙ order-itself (plain_key next.table s text));
      less = λ s more. same s ∙ there.less s more;
    }
  where
    same : (s : Strength) → key_order (plain_key u s text) (plain_key u s item) ≡ key_order (plain_key next.table s text) (plain_key next.table s item)
    same s = untouched next.table u (rules_after p) (record { strength = s; weighting = NonIgnorable }) text item table_through later h.text_scalars h.item_scalars h.text_stays h.item_stays

no_relation : (t : ElementTable) (a : List Element) (u : ElementTable) → related_all 0 t a [] ≡ Ok u → t ≡ u
unfolding related_all
no_relation t a u h = cc

module _ (level : ℕ) (t : ElementTable) (p : Place) (t0 t1 u : ElementTable) (text item : List ℕ) (tables : Tailors t p t0 t1 u) (h : AreNeighbours level p t0 t1 u text item) where
  -- the relation is reached in its chain, whatever comes after it
  reached_here : (m v : ElementTable) (rest : List Relation) → related_all 0 m (elements m p.reset) p.done ≡ Ok t0 → (w : IsReached 0 m (elements m p.reset) p.done p.relation rest v) → related t0 (elements t0 (nfd text)) p.relation ≡ Ok w.next
  reached_here m v rest before w =
      let said : (let r : Result ElementTable TailorFault = Ok w.table in r) ≡ Ok t0 = sym w.before ∙ before in
      let at : w.table ≡ t0 = cc in
      let anchor : w.anchor ≡ elements w.table (nfd text) = w.anchor_is p.reset h.plain_before (λ _. refl) ∙ ap (elements w.table) (sym h.text_is) in
      let here : related w.table (elements w.table (nfd text)) p.relation ≡ Ok w.next = subst (λ (es : List Element). related w.table es p.relation ≡ Ok w.next) anchor w.here in
      subst (λ (x : ElementTable). related x (elements x (nfd text)) p.relation ≡ Ok w.next) at here

  in_chain : (m v : ElementTable) → related_all 0 m (elements m p.reset) p.done ≡ Ok t0 → related_all 0 m (elements m p.reset) (p.done ++ p.relation ∷ []) ≡ Ok t1 → related_all 0 m (elements m p.reset) (p.done ++ p.relation ∷ p.rest) ≡ Ok v
      → tailored_from 0 v p.after ≡ Ok u → ComesBefore level u text item
  in_chain m v before through whole after =
      let one = reached 0 m (elements m p.reset) p.done p.relation [] t1 through in
      let all = reached 0 m (elements m p.reset) p.done p.relation p.rest v whole in
      let of_one : related t0 (elements t0 (nfd text)) p.relation ≡ Ok one.next = reached_here m t1 [] before one in
      let of_all : related t0 (elements t0 (nfd text)) p.relation ≡ Ok all.next = reached_here m v p.rest before all in
      let said : (let r : Result Related TailorCause = Ok one.next in r) ≡ Ok all.next = sym of_one ∙ of_all in
      let next : one.next ≡ all.next = cc in
      let table : all.next.table ≡ t1 = ap (λ (x : Related). x.table) (sym next) ∙ no_relation one.next.table one.next.anchor t1 one.later in
      let anchor : elements all.next.table p.relation.item ≡ all.next.anchor = each_anchor t0 (elements t0 (nfd text)) p.relation all.next h.some_points h.plain of_all in
      let later : tailored_from 0 all.next.table (rules_after p) ≡ Ok u =
      chain_with all.next.table (chain p.relation.item p.rest) p.after v u (subst (λ (es : List Element). related_all 0 all.next.table es p.rest ≡ Ok v) (sym anchor) all.later) after in
      stay_in_order level p t0 u all.next text item (subst (λ (x : ElementTable). AreNeighbours level p t0 x u text item) (sym table) h) tables.table_before (subst IsTable (sym table) tables.table_through) of_all later

  come_as_written : ComesBefore level u text item
  come_as_written =
      let of_before = in_parts 0 t p.before (chain p.reset p.done ∷ []) t0 tables.before in
      let of_through = in_parts 0 t p.before (chain p.reset (p.done ++ p.relation ∷ []) ∷ []) t1 tables.through in
      let of_whole = in_parts 0 t p.before (chain p.reset (p.done ++ p.relation ∷ p.rest) ∷ p.after) u tables.whole in
      let m : ElementTable = of_whole.middle in
      let said_before : (let r : Result ElementTable TailorFault = Ok of_before.middle in r) ≡ Ok m = sym of_before.first ∙ of_whole.first in
      let said_through : (let r : Result ElementTable TailorFault = Ok of_through.middle in r) ≡ Ok m = sym of_through.first ∙ of_whole.first in
      let same_before : of_before.middle ≡ m = cc in
      let same_through : of_through.middle ≡ m = cc in
      let first = first_chain m (chain p.reset p.done) [] t0 (subst (λ (x : ElementTable). tailored_from 0 x (chain p.reset p.done ∷ []) ≡ Ok t0) same_before of_before.second) in
      let second = first_chain m (chain p.reset (p.done ++ p.relation ∷ [])) [] t1 (subst (λ (x : ElementTable). tailored_from 0 x (chain p.reset (p.done ++ p.relation ∷ []) ∷ []) ≡ Ok t1) same_through of_through.second) in
      let third = first_chain m (chain p.reset (p.done ++ p.relation ∷ p.rest)) p.after u of_whole.second in
      in_chain m third.table
      (first.relations ∙ ap Ok (no_chain first.table t0 first.others))
      (second.relations ∙ ap Ok (no_chain second.table t1 second.others))
      third.relations third.others

pub neighbours-come : NeighboursComeAsWritten
neighbours-come level t p t0 t1 u text item tables h = come_as_written level t p t0 t1 u text item tables h

-- ## A whole chain

comes_after : (a b : ℕ) (u : ElementTable) (x y z : List ℕ) → ComesBefore a u x y → ComesBefore b u y z → ComesBefore (min a b) u x z
comes_after a b u x y z one two = record {
  equal = λ s few. one.equal s (omega (arith, few)) ∙ two.equal s (omega (arith, few));
  less = λ s more. elim (cases_lt (levels s) a) [
    | inl below ↦ subst (λ (k : List ℕ). key_order k (plain_key u s z) ≡ Less) (sym (one.equal s below)) (two.less s (omega (arith, more, below)))
    | inr above ↦ elim (cases_lt (levels s) b) [
      | inl below ↦ subst (λ (k : List ℕ). key_order (plain_key u s x) k ≡ Less) (two.equal s below) (one.less s above)
      | inr over ↦ nat_list_cmp_total.trans (plain_key u s x) (plain_key u s y) (plain_key u s z) (one.less s above) (two.less s over)
    ]
  ];
}

pub chains-come : ChainsComeAsWritten
chains-come u text next [] h = h.0
chains-come u text next (other ∷ more) h = comes_after next.0 (strongest other more) u text next.1 (last_text other more) h.0 (chains-come u next.1 other more h.1)
