-- The bytes that a fingerprint digests say the table and the settings.
use Rattle.std.proofs.Common.{◌≡◌, ℕ, List, [], ◌++◌, length, sym, ap, ◌∙◌, refl, arith, length-append}
use Rattle.std.proofs.Math.Seq.{take-append_seam}
use Rattle.std.proofs.lemmas.List.{append_cancel_left}
use Rattle.std.proofs.lemmas.Grind.{common_steps}
use Rattle.uca_weights.specs.declared.settings.Settings.{Settings}
use Rattle.uca_model.specs.CanonicalText.{canonical}
use Rattle.uca_model.specs.Table.{ElementTable, with_ideographs}
use Rattle.uca_model.proofs.ReadBackLemmas.{canonical-apart}
use Rattle.uca_handle.specs.Fingerprint.{settings_bytes}
use Rattle.uca_handle.proofs.laws.equal_fingerprints_mean_equal_keys.Goals as goal

-- bytes before as many others, and those others
parts-same : (xs ys vs ws : List ℕ) → length vs ≡ length ws → xs ++ vs ≡ ys ++ ws → (xs ≡ ys) × (vs ≡ ws)
parts-same xs ys vs ws size same =
    let len : length xs ≡ length ys = omega (arith, length-append xs vs, length-append ys ws, ap (length {A = ℕ}) same) in
    let front = take-append_seam xs vs in
    let other = take-append_seam ys ws in
    let first : xs ≡ ys = cc in
    (first, append_cancel_left ys vs ws (ap (λ l. l ++ vs) (sym first) ∙ same))

settings-apart : (s r : Settings) → settings_bytes s ≡ settings_bytes r → s ≡ r
settings-apart s r same = grind (arith, common_steps)

-- a table without further ideographs is itself
itself : (t : ElementTable) → t.ideographs ≡ [] → with_ideographs t [] ≡ t
itself t none = grind (arith, common_steps)

pub returns : goal.returns
returns c = λ t u s r of_t of_u same.
    let parts = parts-same (canonical t) (canonical u) (settings_bytes s) (settings_bytes r) refl same in
    let tables : t ≡ u = sym (itself t of_t.none) ∙ canonical-apart t u of_t.valid of_u.valid of_t.by_first of_u.by_first parts.0 ∙ itself u of_u.none in
    let settings : s ≡ r = settings-apart s r parts.1 in
    record { table = tables; settings = settings; keys = λ text. cc; packed = λ text. cc }
