-- Characters that a scan passes without a look at their decompositions, and the bytes at which it looks.
use Rattle.std.specs.Prelude.{◌≡◌, ℕ, ◌+◌, ◌≤◌, length, true, Bool, ◌&&◌, ◌||◌, ◌==◌, nat_lt, nat_le, List, [], ◌∷◌, ◌++◌, encode_utf8_all, cond}
use Rattle.std.specs.List.{list_all, count_by}
use Rattle.uca_weights.specs.declared.limits.TheConstants.{MAX_RUN}

-- at least the first number and below the second
abbrev pub is_within : ℕ → ℕ → ℕ → Bool
is_within low high n = nat_le low n && nat_lt n high

-- a code point of a range in which each NFD begins with a starter, before Hebrew or after Lao
abbrev pub is_passed_outside : ℕ → Bool
is_passed_outside c =
    nat_lt c 0x300
    || (is_within 0x370 0x483 c || (is_within 0x48A 0x591 c || (is_within 0x1100 0x1200 c || (is_within 0x1E00 0x20D0 c || (is_within 0x2100 0x2CEF c
    || (is_within 0x2E00 0x302A c || (is_within 0x3030 0x3099 c || (is_within 0x309B 0xA66F c || (is_within 0xAC00 0xFB00 c || nat_le 0x1F000 c)))))))))

-- the same from Hebrew to Lao
abbrev pub is_passed_between : ℕ → Bool
is_passed_between c =
    is_within 0x904 0x93C c
    || (is_within 0x93D 0x94D c || (is_within 0x955 0x9BC c || (is_within 0x9BD 0x9CD c || (is_within 0xA5F 0xABC c || (is_within 0xB5E 0xBCD c || (is_within 0xC57 0xCBC c
    || (is_within 0xDCB 0xE38 c || (is_within 0xE3B 0xE48 c || (is_within 0xE4C 0xEB8 c || (is_within 0x5D0 0x610 c || (is_within 0x61B 0x64B c || is_within 0x671 0x6D6 c)))))))))))

-- a code point of a range in which each NFD begins with a starter
abbrev pub is_passed : ℕ → Bool
is_passed c = is_passed_outside c || is_passed_between c

-- a byte with which code points of no such range begin in UTF-8
abbrev pub is_stop : ℕ → Bool
is_stop b = is_within 0xCC 0xCE b || (b == 0xD2 || (is_within 0xD6 0xE4 b || (b == 0xEA || nat_le 0xEE b)))

-- the four code points whose NFD is two nonstarters
abbrev pub is_pair : ℕ → Bool
is_pair c = c == 0x344 || (c == 0xF73 || (c == 0xF75 || c == 0xF81))

-- a byte that one of these has in UTF-8: the first of U+0344, the second of the others
abbrev pub is_of_pair : ℕ → Bool
is_of_pair b = b == 0xCD || is_within 0xBD 0xBF b

-- the byte with which the only code point begins that adds as many nonstarters as it has bytes in UTF-8, U+0344
abbrev pub is_dense : ℕ → Bool
is_dense b = b == 0xCD

-- a byte that begins a code point of several bytes in UTF-8, or is the second of the three others of those four
abbrev pub is_high : ℕ → Bool
is_high b = nat_le 0xBD b

-- how many nonstarters some bytes add to a run at most: one for each stop, and one more for each pair; by a coarser look, one for each
-- byte that is high, and one more for each that is dense
abbrev pub added_by : Bool → List ℕ → ℕ
added_by coarsely bytes = count_by (cond coarsely is_high is_stop) bytes + count_by (cond coarsely is_dense is_of_pair) bytes

-- the last of some code points, or another one where there are none
abbrev pub last_of : ℕ → List ℕ → ℕ
last_of c [] = c
last_of c (d ∷ ds) = last_of d ds

-- bytes without the passed characters at their front, and the last of these
pub record Passes (bytes : List ℕ) (last : ℕ) (others : List ℕ) (end : ℕ) : Type 0 where
  pub front : List ℕ
  pub parts : bytes ≡ encode_utf8_all front ++ others
  pub passed : list_all is_passed front ≡ true
  pub end_is : end ≡ last_of last front

-- bytes without a passed character and the characters before it, which are so few bytes that after another passed character no
-- run of nonstarters grows too long if each byte adds one
pub record Skips (bytes : List ℕ) (others : List ℕ) (end : ℕ) : Type 0 where
  pub between : List ℕ
  pub parts : bytes ≡ encode_utf8_all (between ++ end ∷ []) ++ others
  pub few : 3 + length (encode_utf8_all between) ≤ MAX_RUN
  pub passed : is_passed end ≡ true
