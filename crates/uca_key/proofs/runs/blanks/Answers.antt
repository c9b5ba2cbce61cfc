use Rattle.uca_key.proofs.Common.{◌==◌, ◌&&◌, ◌∙◌, ℕ, List, map, sym, ap, arith, w32, bitmask_splat, mask_l}
use Rattle.uca_key.proofs.MaskLemmas.{nothing-asked}
use Rattle.uca_key.proofs.runs.blanks.Goals as goal

pub returns-then-not-asked : goal.returns-then-not-asked
returns-then-not-asked c =
    nothing-asked c.args.weights ∙ ap (λ asked. mask_l (map (λ (w : ℕ). asked && (w == 0)) c.args.weights)) (sym c.if-not-asked.true)

pub returns : goal.returns
returns c =
    let ws : List ℕ = c.args.weights in
    bitmask_splat w32 (λ a b. a == b) ws 16 0 c.fits-weights.0 (omega arith)
    ∙ ap (λ asked. mask_l (map (λ (w : ℕ). asked && (w == 0)) ws)) (sym c.if-not-asked.false)
