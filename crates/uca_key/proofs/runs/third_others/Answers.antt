use Rattle.uca_key.proofs.Common.{◌≡◌, ◌%◌, ◌/◌, ◌^◌, ℕ, cond, List, map, replicate, ap, ◌∙◌, arith, w32, length-map, bitmask_splat, zip2_splat}
use lib.Lanes.{zip2, mask_l, top}
use Rattle.uca_key.proofs.MaskLemmas.{differ}
use Rattle.uca_key.proofs.runs.third_others.Goals as goal

pub returns : goal.returns
returns c =
    let ws : List ℕ = c.args.weights in let high : List ℕ = map (λ (w : ℕ). w / 65536) ws in
    let lanes : zip2 (λ (a b : ℕ). a / 2 ^ b) ws (replicate 16 16) ≡ high = zip2_splat (λ (a b : ℕ). a / 2 ^ b) ws 16 16 c.fits-weights.0 in
    ap (λ l. mask_l (map (top 31) (zip2 (λ a b. cond (differ a b) 4294967295 0) l (replicate 16 2))) % 2 ^ 64) lanes
    ∙ bitmask_splat w32 differ high 16 2 (length-map ws (λ (w : ℕ). w / 65536) ∙ c.fits-weights.0) (omega arith)
