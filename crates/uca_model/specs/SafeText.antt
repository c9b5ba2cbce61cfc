-- Texts with short runs of nonstarters (compare UAX #15, section 13, Stream-Safe Text Format, which counts in compatibility decompositions).
use Rattle.std.specs.Prelude.{◌≡◌, ℕ, ◌+◌, ◌<◌, ◌≤◌, Bool, ◌&&◌, nat_le, suc, max, List, [], ◌∷◌, length, take, All, encode_utf8_all, if◌then◌else◌}
use Rattle.std.specs.List.{list_all}
use Rattle.uca_weights.specs.declared.limits.TheConstants.{MAX_RUN, MAX_DECOMPOSITION}
use Rattle.unicode_normalization.specs.Forms.{nfd}
use Rattle.unicode_normalization.specs.Order.{is_nonstarter}

-- the length of the longest run of nonstarters, where `count` nonstarters come before the text
abbrev pub longest_run_after : ℕ → List ℕ → ℕ
longest_run_after count [] = count
longest_run_after count (c ∷ cs) = if is_nonstarter c then longest_run_after (count + 1) cs else max count (longest_run_after 0 cs)

-- the length of the longest run of nonstarters (UAX #15, 13)
abbrev pub longest_run : List ℕ → ℕ
longest_run cs = longest_run_after 0 cs

-- the NFD of the text has short runs, and that of each character is short
pub record IsSafe (text : List ℕ) : Type 0 where
  pub runs : longest_run (nfd text) ≤ MAX_RUN
  pub short : All (λ c. length (nfd (c ∷ [])) ≤ MAX_DECOMPOSITION) text

-- the byte offset of the first character with which the text is no longer safe
pub record IsLongRunAt (text : List ℕ) (at : ℕ) : Type 0 where
  pub place : ℕ
  pub inside : place < length text
  pub offset : at ≡ length (encode_utf8_all (take place text))
  pub before : IsSafe (take place text)
  pub through : ¬ (IsSafe (take (suc place) text))

-- whether a text is safe
abbrev pub is_safe : List ℕ → Bool
is_safe text = nat_le (longest_run (nfd text)) MAX_RUN && list_all (λ c. nat_le (length (nfd (c ∷ []))) MAX_DECOMPOSITION) text
