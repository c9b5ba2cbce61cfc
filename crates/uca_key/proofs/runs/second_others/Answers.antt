use Rattle.uca_key.proofs.Common.{◌≡◌, ◌%◌, ◌^◌, ℕ, cond, List, map, replicate, ap, ◌∙◌, arith, bit_and, w32, length-map, and_mask, bitmask_splat, zip2_splat}
use lib.Lanes.{zip2, mask_l, top}
use Rattle.uca_key.proofs.MaskLemmas.{differ, map-same}
use Rattle.uca_key.proofs.runs.second_others.Goals as goal

pub returns : goal.returns
returns c =
    let ws : List ℕ = c.args.weights in let low : List ℕ = map (λ (w : ℕ). w % 65536) ws in
    let lanes : zip2 bit_and ws (replicate 16 65535) ≡ low = zip2_splat bit_and ws 16 65535 c.fits-weights.0 ∙ map-same _ _ (λ w. and_mask w 16) ws in
    ap (λ l. mask_l (map (top 31) (zip2 (λ a b. cond (differ a b) 4294967295 0) l (replicate 16 32))) % 2 ^ 64) lanes
    ∙ bitmask_splat w32 differ low 16 32 (length-map ws (λ (w : ℕ). w % 65536) ∙ c.fits-weights.0) (omega arith)
