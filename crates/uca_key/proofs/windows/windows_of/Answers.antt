use Rattle.uca_key.proofs.Common.{◌≡◌, ◌+◌, ◌<◌, ◌∷◌, ◌++◌, [], ◌∙◌, List, ℕ, ap, arith, get_or, length, length-append, cases_lt, common_steps, IsWindow}
use Rattle.uca_key.specs.declared.windows.Window.{Window}
use Rattle.uca_key.proofs.windows.windows_of.Goals as goal

-- a window more
more : (P : ℕ → Window → Type 0) (n : ℕ) (w : Window) (items after : List Window) → length items ≡ n → after ≡ items ++ w ∷ [] → ((i : ℕ) (d : Window) → i < n → P i (get_or items i d)) → P n w → (i : ℕ) (d : Window) → i < n + 1 → P i (get_or after i d)
more P n w items after size made each last i d within = grind (arith, common_steps, cases_lt)

pub loop-base-preserved : goal.loop-base-preserved
loop-base-preserved c =
    let i = c.loop-base.invariant in let items = c.in_ok-push.ensures.items in let k = c.args.codes.now in let w = c.in_ok-window_at.field-0 in
    record {
      size = omega (arith, ap length items, length-append c.loop-base.windows.items (w ∷ []), i.size);
      base = more (λ n window. window.base ≡ get_or k.anchors n 0) c.loop-base.base-index w c.loop-base.windows.items _ i.size items i.base
          (c.in_ok-window_at.ensures.base ∙ ap (λ (l : List ℕ). get_or l c.loop-base.base-index 0) c.anchors-base-items.ensures.same);
      each = more (λ n window. IsWindow k window) c.loop-base.base-index w c.loop-base.windows.items _ i.size items i.each c.in_ok-window_at.ensures.window;
    }

pub returns : goal.returns
returns c = grind (arith, common_steps)
