-- Later levels that begin at the cut: what they decide, and how often the texts are read.
use Rattle.std.proofs.Common.{◌≡◌, ℕ, suc, ◌+◌, ◌-◌, ◌*◌, ◌≤◌, Bool, List, take, drop, refl, sym, ap, ◌∙◌, arith, mul-le-mul_left}
use Rattle.std.proofs.lemmas.List.{length-drop, take-append-drop}
use Rattle.std.specs.declared.cmp.Ordering.{Ordering}
use Rattle.std.specs.declared.cmp.Ordering.TheVariants.{Equal}
use Rattle.uca_weights.specs.declared.settings.Settings.{Settings}
use Rattle.uca_weights.specs.declared.settings.Variable.{Variable}
use Rattle.uca_weights.specs.Settings.{levels}
use Rattle.uca_model.specs.LevelWeights.{level_list}
use Rattle.uca_model.specs.DecidingLevel.{OrdersLevel, key_from, deciding_from, deciding_level}
use Rattle.uca_model.specs.SafeCut.{cut_of}
use Rattle.uca_model.specs.SafeText.{IsSafe}
use Rattle.uca_model.specs.SortKey.{key_order, sort_key}
use Rattle.uca_model.specs.Source.{SourceState, unread}
use Rattle.uca_model.specs.Table.{ElementTable, IsTable}
use Rattle.uca_model.proofs.LevelLemmas.{sort_key-levels, levels-within, key_from-here, key_from-last, key_from-next, deciding-here, deciding-last, deciding-next}
use Rattle.uca_model.proofs.SafeCutLemmas.{texts-cut}
use Rattle.uca_levels.specs.Reads.{ReadsRest, ReadsTimes}
use Rattle.uca_levels.specs.FromCut.{ReadsFromCut, Undecided, place_back, goes_back}
use Rattle.uca_levels.proofs.ReadsLemmas.{InStep-orders}
use Rattle.uca_levels.proofs.WithoutFront.{safe-from}
use Rattle.std.proofs.lemmas.Grind.{common_steps}

-- ---- what follows the cut

-- the order of the parts after the cut is that of the texts
orders-cut : (t : ElementTable) (v : Variable) (a b : List ℕ) (level : ℕ) (o : Ordering) → IsTable t
    → OrdersLevel level (level_list t v (drop (cut_of t a b) a) level) (level_list t v (drop (cut_of t a b) b) level) o → OrdersLevel level (level_list t v a level) (level_list t v b level) o
orders-cut t v a b level o valid h =
    let m = cut_of t a b in
    let cut = texts-cut t v a b valid in
    InStep-orders level _ _ _ _ o (record {
      front = level_list t v (take m a) level;
      first = ap (λ l. level_list t v l level) (sym (take-append-drop m a)) ∙ cut.first.lists level;
      second = ap (λ l. level_list t v l level) (sym (take-append-drop m b)) ∙ rw (cut.second.lists level) (rw cut.same refl);
    }) h

-- ---- level after level

pub undecided-first : (t : ElementTable) (s : Settings) (a b : List ℕ) → Undecided t s a b 1
undecided-first t s a b = grind (arith, common_steps, sort_key-levels, levels-within)

module _ (t : ElementTable) (s : Settings) (a b : List ℕ) (level : ℕ) (o : Ordering) (h : Undecided t s a b level) (inside : level ≤ levels s.strength) (orders : OrdersLevel level (level_list t s.weighting a level) (level_list t s.weighting b level) o) where
  -- the level leaves the order to the next one
  pub undecided-next : o ≡ Equal → Undecided t s a b (level + 1)
  undecided-next equal =
      let la = level_list t s.weighting a in
      let lb = level_list t s.weighting b in
      let within : _ ≤ 5 = (levels-within s.strength).1 in
      record {
        order = λ more. (let some : _ - level ≡ suc (_ - (level + 1)) = omega arith in h.order inside ∙ ap (λ n. key_order (key_from n level la) (key_from n level lb)) some ∙ key_from-next (_ - (level + 1)) level la lb o orders (omega (arith, some)) equal);
        deciding = λ more. (let some : _ - level ≡ suc (_ - (level + 1)) = omega arith in h.deciding inside ∙ ap (λ n. deciding_from n level la lb) some ∙ deciding-next (_ - (level + 1)) level la lb o orders.list equal);
        same = λ past. (let none : _ - level ≡ 0 = omega arith in h.order inside ∙ ap (λ n. key_order (key_from n level la) (key_from n level lb)) none ∙ key_from-last level la lb o orders ∙ equal);
        last = λ past. (let none : _ - level ≡ 0 = omega arith in let at : level ≡ _ = omega arith in h.deciding inside ∙ deciding-last (_ - level) level la lb none ∙ at);
      }

  -- the level decides
  pub decided-here : (o ≡ Equal → ⊥) → (key_order (sort_key t s a) (sort_key t s b) ≡ o) × (deciding_level t s a b ≡ level)
  decided-here other = grind (arith, common_steps, levels-within, key_from-here, deciding-here)

-- ---- ways back, and counts

-- what is unread after a way back to the cut
back-unread : (marked : Bool) (m : ℕ) (was s new : SourceState) → new ≡ goes_back marked s → place_back marked s ≡ m → s.text ≡ was.text → unread new ≡ drop m was.text
back-unread marked m was s new e place text = grind (arith, common_steps)

pub back-safe : (marked : Bool) (m : ℕ) (was s new : SourceState) → new ≡ goes_back marked s → place_back marked s ≡ m → s.text ≡ was.text → IsSafe was.text → IsSafe (unread new)
back-safe marked m was s new e place text safe = rw (back-unread marked m was s new e place text) (safe-from m was.text safe)

one_time_more : (n k : ℕ) → (n + 1) * k ≡ n * k + k
one_time_more n k = grind arith

-- what decides after the ways back decides the texts
pub orders-back : (t : ElementTable) (v : Variable) (marked : Bool) (was wus a b start_a start_b : SourceState) (level : ℕ) (o : Ordering) → IsTable t
    → place_back marked a ≡ cut_of t was.text wus.text → place_back marked b ≡ cut_of t was.text wus.text → a.text ≡ was.text → b.text ≡ wus.text → start_a ≡ goes_back marked a → start_b ≡ goes_back marked b
    → OrdersLevel level (level_list t v (unread start_a) level) (level_list t v (unread start_b) level) o → OrdersLevel level (level_list t v was.text level) (level_list t v wus.text level) o
orders-back t v marked was wus a b start_a start_b level o valid place_a place_b text_a text_b start_a_is start_b_is orders =
    orders-cut t v was.text wus.text level o valid (rw (← back-unread marked _ was a start_a start_a_is place_a text_a) (rw (← back-unread marked _ wus b start_b start_b_is place_b text_b) orders))

-- a source that goes back to the cut and is read once from there on
pub FromCut-more : (marked : Bool) (m level : ℕ) (was s start after : SourceState) → ReadsFromCut (level - 1) m was s → place_back marked s ≡ m → 2 ≤ level → start ≡ goes_back marked s → ReadsRest start after → ReadsFromCut level m was after
FromCut-more marked m level was s start after h place low start_is reads = grind (arith, common_steps, one_time_more, length-drop, back-unread)

pub back-stays : (marked : Bool) (m : ℕ) (s start after : SourceState) → place_back marked s ≡ m → start ≡ goes_back marked s → ReadsRest start after → place_back marked after ≡ m
back-stays marked m s start after place start_is reads = grind (arith, common_steps)

-- as often as ever
pub FromCut-times : (d m : ℕ) (old new : SourceState) → 1 ≤ d → ReadsFromCut d m old new → ReadsTimes d old new
FromCut-times d m old new low h = grind (arith, common_steps, mul-le-mul_left, one_time_more)
