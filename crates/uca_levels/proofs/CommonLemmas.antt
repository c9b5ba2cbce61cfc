-- Two texts in step: what one more character, the weight of one more element and the first difference do.
use Rattle.std.proofs.Common.{◌⊎◌, ◌≡◌, ℕ, ◌-◌, ◌<◌, Bool, true, false, not, ◌==◌, List, [], ◌∷◌, ◌++◌, length, slice_index, filter, Option, Some, None, unwrap_or, refl, sym, ap, ap₂, subst, ◌∙◌, arith, inl, inr, append_assoc, length-append}
use Rattle.std.specs.declared.cmp.Ordering.{Ordering}
use Rattle.uca_weights.specs.declared.element.Element.{Element}
use Rattle.uca_weights.specs.declared.settings.Variable.{Variable}
use Rattle.uca_weights.specs.VariableWeighting.{weights}
use Rattle.uca_model.specs.Table.{ElementTable, IsTable, elements_at, longest}
use Rattle.uca_model.specs.ImplicitWeights.{implicit_over}
use Rattle.uca_model.proofs.TableLemmas.{IsEntry-elements_at}
use Rattle.uca_model.specs.CollationElements.{elements_or_implicit}
use Rattle.uca_model.specs.DecidingLevel.{OrdersLevel}
use Rattle.uca_model.specs.LevelWeights.{level_list}
use Rattle.uca_model.specs.SafeCut.{is_cut, last_cut, common_front, cut_of}
use Rattle.uca_model.specs.Source.{SourceState, unread, GivesNext, marked}
use Rattle.uca_model.specs.Window.{WindowState, ReadsOn}
use Rattle.uca_model.proofs.LongestKey.{longest-some}
use Rattle.uca_model.proofs.SafeCutLemmas.{DiffersFirst, common_front-is, last_cut-more}
use Rattle.uca_match.specs.Yields.{Yields}
use Rattle.uca_match.specs.RemainingElements.{ElementsState, is_asking, yielded_held, after_held, first_of}
use Rattle.uca_levels.specs.RemainingWeights.{WeightsState, remaining_with_zeros, remaining_weights, window_of_weights, weight_given, ReadsOne, WeighsHeld}
use Rattle.uca_levels.specs.FirstWeight.{OrderTexts, going_on}
use Rattle.uca_levels.specs.Reads.{InStep}
use Rattle.uca_levels.specs.InCommon.{PassUnderWay, FrontRead, IsRunning, InCommon, Parted, work_left}
use Rattle.uca_levels.proofs.ReadsLemmas.{InStep-same, InStep-without, InStep-orders, given_some}
use Rattle.std.proofs.lemmas.Grind.{common_steps}

pass-more : (was now next : SourceState) (cut : ℕ) (flag : Bool) (w new : WindowState) → PassUnderWay was cut flag w now → ReadsOn w now new next → PassUnderWay was cut flag new next
pass-more was now next cut flag w new h r = grind (arith, common_steps)

-- ---- one more character

module _ (t : ElementTable) (was : SourceState) (front : List ℕ) (flag : Bool) (left now : WeightsState) (a next : SourceState) (c : ℕ) (h : FrontRead t was front flag left.elements.window a) (r : ReadsOne left a (Some c) now next) where
  whole : was.text ≡ (front ++ c ∷ []) ++ unread next
  whole = h.whole ∙ ap (λ l. front ++ l) r.gives.value.0 ∙ sym (append_assoc front (c ∷ []) (unread next))

  read-char : is_cut t c ≡ false → FrontRead t was (front ++ c ∷ []) flag now.elements.window next
  read-char plain = grind (arith, common_steps, last_cut-more, length-append, pass-more, whole)

  read-cut : is_cut t c ≡ true → FrontRead t was (front ++ c ∷ []) true now.elements.window (marked next)
  read-cut cut = grind (arith, common_steps, last_cut-more, length-append, whole)

-- nothing was read
read-none : (t : ElementTable) (was : SourceState) (front : List ℕ) (flag : Bool) (w new : WindowState) (a next : SourceState) → FrontRead t was front flag w a → next ≡ a → ReadsOn w a new next → FrontRead t was front flag new next
read-none t was front flag w new a next h same r = grind (arith, common_steps, pass-more)

running-read : (t : ElementTable) (w now : WeightsState) (a next : SourceState) (c : ℕ) → IsRunning t w → ReadsOne w a (Some c) now next → IsRunning t now
running-read t w now a next c h r = grind (arith, common_steps)

module _ (t : ElementTable) (v : Variable) (was wus : SourceState) (left right : WeightsState) (flag : Bool) (a b : SourceState) (h : InCommon t v was wus left right flag a b) where
  module _ (now_left now_right : WeightsState) (now_a now_b : SourceState) (c : ℕ) (r : ReadsOne left a (Some c) now_left now_a) (q : ReadsOne right b (Some c) now_right now_b) where
    both-same : now_left ≡ now_right
    both-same = cc (h.same, r.next, q.next)

    lists : InStep (level_list t v was.text 1) (level_list t v wus.text 1) (remaining_weights now_left (unread now_a)) (remaining_weights now_right (unread now_b))
    lists = InStep-same _ _ _ _ _ _ h.lists (ap (filter (λ weight. not (weight == 0))) r.remaining) (ap (filter (λ weight. not (weight == 0))) q.remaining)

    -- the same character was read
    pub common-char : is_cut t c ≡ false → InCommon t v was wus now_left now_right flag now_a now_b
    common-char plain = record {
      same = both-same;
      running = running-read t left now_left a now_a c h.running r;
      front = h.front ++ c ∷ [];
      first = read-char t was h.front flag left now_left a now_a c h.first r plain;
      second = read-char t wus h.front flag right now_right b now_b c h.second q plain;
      lists = lists;
    }

    -- the same, and before it the texts may be cut
    pub common-cut : is_cut t c ≡ true → InCommon t v was wus now_left now_right true (marked now_a) (marked now_b)
    common-cut cut = record {
      same = both-same;
      running = running-read t left now_left a now_a c h.running r;
      front = h.front ++ c ∷ [];
      first = read-cut t was h.front flag left now_left a now_a c h.first r cut;
      second = read-cut t wus h.front flag right now_right b now_b c h.second q cut;
      lists = lists;
    }

  -- other characters were read, or an end
  pub common-parts : (x y : Option ℕ) (now_left now_right : WeightsState) (now_a now_b : SourceState) → ReadsOne left a x now_left now_a → ReadsOne right b y now_right now_b → (x ≡ None) ⊎ (x ≡ y → ⊥) → Parted t v was wus now_left now_right flag now_a now_b x y
  common-parts x y now_left now_right now_a now_b r q other =
      let first : was.text ≡ h.front ++ going_on x (unread now_a) = h.first.whole ∙ ap (λ l. h.front ++ l) (goes_on x a now_a r.gives) in
      let second : wus.text ≡ h.front ++ going_on y (unread now_b) = h.second.whole ∙ ap (λ l. h.front ++ l) (goes_on y b now_b q.gives) in
      let cut : last_cut t h.front ≡ cut_of t was.text wus.text = ap (last_cut t) (sym (ap₂ common_front first second ∙ common_front-is h.front (going_on x (unread now_a)) (going_on y (unread now_b)) (differs x y (unread now_a) (unread now_b) other))) in
      record {
        front = h.front;
        later_a = unread now_a;
        later_b = unread now_b;
        whole_a = first;
        whole_b = second;
        level = ap (λ (w : WeightsState). w.level) r.next ∙ h.running.level;
        first = pass-more was a now_a _ flag _ _ (subst (λ m. PassUnderWay was m flag left.elements.window a) cut h.first.pass) r.reads;
        second = pass-more wus b now_b _ flag _ _ (subst (λ m. PassUnderWay wus m flag right.elements.window b) cut h.second.pass) q.reads;
        lists = InStep-same _ _ _ _ _ _ h.lists (ap (filter (λ weight. not (weight == 0))) r.remaining) (ap (filter (λ weight. not (weight == 0))) q.remaining);
      }
    where
      goes_on : (o : Option ℕ) (old new : SourceState) → GivesNext old o new → unread old ≡ going_on o (unread new)
      goes_on None old new g = g.value.0
      goes_on (Some c) old new g = g.value.0

      differs : (x y : Option ℕ) (l k : List ℕ) → (x ≡ None) ⊎ (x ≡ y → ⊥) → DiffersFirst (going_on x l) (going_on y k)
      differs None y l k o = tt
      differs (Some c) None l k o = tt
      differs (Some c) (Some d) l k (inl none) = cc
      differs (Some c) (Some d) l k (inr n) = λ e. n (ap Some e)

-- ---- one more weight

-- implicit elements are two
no_pair : (t : ElementTable) (c : ℕ) → first_of (implicit_over t.ranges t.ideographs c) ≡ None → ⊥
unfolding implicit_over
no_pair t c e = grind (arith, common_steps)

-- the first of a key's elements, or of implicit ones
some_of : (t : ElementTable) (key : List ℕ) → IsTable t → first_of (elements_or_implicit t key) ≡ None → ⊥
some_of t key valid e = by_entry (elements_at t key) refl e
  where
    by_entry : (o : Option (List Element)) → elements_at t key ≡ o → first_of (unwrap_or o (implicit_over t.ranges t.ideographs (slice_index key 0))) ≡ None → ⊥
    by_entry None f e = no_pair t (slice_index key 0) e
    by_entry (Some es) f e = let entry = IsEntry-elements_at t key es valid f in grind (arith, common_steps, entry.some_elements)

-- a window that runs and wants no more has closed points, so there is an element
some_held : (e : ElementsState) → IsTable e.table → e.window.longest ≡ longest e.table → e.window.ended ≡ false → is_asking e ≡ false → yielded_held e ≡ None → ⊥
some_held e valid size runs idle none = grind (arith, common_steps, some_of, longest-some)

running-held : (e : ElementsState) → (after_held e).window.ended ≡ e.window.ended
running-held e = grind (arith, common_steps)

running-given : (t : ElementTable) (w now : WeightsState) (a next : SourceState) (x : Option ℕ) → IsRunning t w → WeighsHeld w a x now next → ReadsOn w.elements.window a now.elements.window next → IsRunning t now
running-given t w now a next x h held r = grind (arith, common_steps, running-held)

module _ (t : ElementTable) (v : Variable) (was wus : SourceState) (left right : WeightsState) (flag : Bool) (a b : SourceState) (h : InCommon t v was wus left right flag a b) (valid : IsTable t) (idle : is_asking left.elements ≡ false) where
  -- both gave a weight, and the same
  pub common-weight : (x y : Option ℕ) (now_left now_right : WeightsState) (now_a now_b : SourceState) → WeighsHeld left a x now_left now_a → WeighsHeld right b y now_right now_b
      → Yields remaining_with_zeros window_of_weights left a x now_left now_a → Yields remaining_with_zeros window_of_weights right b y now_right now_b
      → InCommon t v was wus now_left now_right flag now_a now_b × (work_left now_left now_a < work_left left a)
  common-weight x y now_left now_right now_a now_b p q u w = by_given (yielded_held left.elements) refl
    where
      by_given : (o : Option Element) → yielded_held left.elements ≡ o → InCommon t v was wus now_left now_right flag now_a now_b × (work_left now_left now_a < work_left left a)
      by_given None none = absurd (some_held left.elements (subst IsTable (sym h.running.table) valid) (h.running.size ∙ ap longest (sym h.running.table)) h.running.running idle none)
      by_given (Some e) some =
          let weight : ℕ = slice_index (weights left.weigher.weighting left.weigher.after e) (left.level - 1) in
          let same : now_left ≡ now_right = cc (h.same, p.becomes, q.becomes) in
          let first : x ≡ Some weight = p.answers ∙ ap (weight_given left) some in
          let second : y ≡ Some weight = q.answers ∙ ap (λ w. weight_given w (yielded_held w.elements)) (sym h.same) ∙ ap (weight_given left) some in
          let come_a : remaining_with_zeros left (unread a) ≡ weight ∷ remaining_with_zeros now_left (unread now_a) = given_some _ _ x weight u.first first in
          let come_b : remaining_with_zeros right (unread b) ≡ weight ∷ remaining_with_zeros now_right (unread now_b) = given_some _ _ y weight w.first second in (
            record {
              same = same;
              running = running-given t left now_left a now_a x h.running p u.reads;
              front = h.front;
              first = read-none t was h.front flag _ _ a now_a h.first p.source u.reads;
              second = read-none t wus h.front flag _ _ b now_b h.second q.source w.reads;
              lists = InStep-without weight _ _ _ _ _ _ h.lists come_a come_b;
            },
            omega (arith, ap length come_a, u.reads.reads, ap (λ (s : SourceState). s.reads) p.source),
          )

-- ---- the end

module _ (t : ElementTable) (v : Variable) (was wus : SourceState) (left right : WeightsState) (flag : Bool) (a b : SourceState) (x y : Option ℕ) (o : Ordering) (h : Parted t v was wus left right flag a b x y) where
  -- the texts are in the order of what they go on with
  pub parted-first : OrderTexts t v x y o → OrdersLevel 1 (level_list t v was.text 1) (level_list t v wus.text 1) o
  parted-first orders = rw h.whole_a (rw h.whole_b (orders h.front h.later_a h.later_b))

  -- or of what is left of their weights
  pub parted-orders : OrdersLevel left.level (remaining_weights left (unread a)) (remaining_weights right (unread b)) o → OrdersLevel 1 (level_list t v was.text 1) (level_list t v wus.text 1) o
  parted-orders orders = InStep-orders 1 _ _ _ _ o h.lists (subst (λ n. OrdersLevel n (remaining_weights left (unread a)) (remaining_weights right (unread b)) o) h.level orders)
