-- What a code of primary weights has of each weight, and of each window.
use Rattle.std.specs.Prelude.{◌≡◌, ℕ, ◌<◌, ◌≤◌, ◌-◌, ◌/◌, ◌==◌, ◌&&◌, ◌||◌, Bool, true, false, nat_le, nat_lt, List, [], ◌∷◌, length, get_or, refl, max, fold, if◌then◌else◌}
use Rattle.std.specs.List.{list_any}
use Rattle.std.specs.Coded.{Coded, code_by, coded×, coded_list, coded_ℕ}
use Rattle.uca_key.specs.PrimaryCode.{PrimaryCode, anchor_of, base_after, is_common, is_single, lead, letter_bytes, slot}
use Rattle.uca_key.specs.declared.weight_codes.Parts.{Parts}
use Rattle.uca_key.specs.declared.weight_codes.WeightCode.{WeightCode}
use Rattle.uca_key.specs.declared.windows.Window.{Window}

-- ranges from a first code point to a last one, below the surrogates
abbrev pub is_range : ℕ × ℕ → Bool
is_range r = nat_le r.0 r.1 && nat_lt r.1 0xD800

-- the code names a weight: it has a byte of its own everywhere, or a window begins at it
abbrev pub is_named : PrimaryCode → ℕ → Bool
is_named k w = is_single k w || list_any (λ c. c == w) k.anchors

-- flags say of each weight whether a test holds
abbrev pub AreFlags : (ℕ → Bool) → List Bool → Type 0
AreFlags test flags = (w : ℕ) → w < 65536 → get_or flags w false ≡ test w

-- the greatest of some weights up to one, 0 where there is none
abbrev pub greatest : List ℕ → ℕ → ℕ
greatest ws w = fold (λ best a. if nat_le a w then max best a else best) 0 ws

-- a number, from 1 on, of the greatest of some weights up to one; 0 where there is none
pub record IsNumber (anchors : List ℕ) (w n : ℕ) : Type 0 where
  pub none : n ≡ 0 → greatest anchors w ≡ 0
  pub some : 0 < n → 0 < greatest anchors w
  pub within : n ≤ length anchors
  pub at : 0 < n → get_or anchors (n - 1) 0 ≡ greatest anchors w

-- a weight outside the window leaves it as it is
abbrev pub keeps_window : PrimaryCode → ℕ → Bool
keeps_window k w = is_single k w || anchor_of k w == 0

-- the number, from 1 on, of the window after a weight outside the one before; 0 where that stays
pub record IsNext (k : PrimaryCode) (w n : ℕ) : Type 0 where
  pub none : n ≡ 0 → keeps_window k w ≡ true
  pub some : 0 < n → keeps_window k w ≡ false
  pub within : n ≤ length k.anchors
  pub at : 0 < n → get_or k.anchors (n - 1) 0 ≡ anchor_of k w

-- what a code has of a weight
pub record IsCodeOf (k : PrimaryCode) (w : ℕ) (c : WeightCode) : Type 0 where
  pub slot : c.slot ≡ slot k w
  pub common : c.common ≡ is_common k w
  pub lead : c.lead ≡ lead k w
  pub most : c.lead ≤ 135
  pub single : c.single ≡ is_single k w
  pub next : IsNext k w c.next

-- a list begins with what a code has of so many weights
abbrev pub AreCodes : PrimaryCode → ℕ → List WeightCode → Type 0
AreCodes k n codes = (w : ℕ) (d : WeightCode) → w < n → IsCodeOf k w (get_or codes w d)

-- flags of each weight, and few weights
pub record AreParts (p : Parts) : Type 0 where
  pub commons : length p.commons.now ≡ 65536
  pub named : length p.named.now ≡ 65536
  pub any : length p.any.now ≡ 65536
  pub few : length p.singles.now ≤ 12
  pub numbered : length p.anchors.now < 256

-- a code is made of them
pub record IsMadeOf (k : PrimaryCode) (p : Parts) : Type 0 where
  pub commons : AreFlags (is_common k) p.commons.now
  pub singles : k.singles ≡ p.singles.now
  pub anchors : k.anchors ≡ p.anchors.now
  pub named : AreFlags (is_named k) p.named.now
  pub any : AreFlags (λ w. is_named k w || is_common k w) p.any.now

-- a code of each weight
pub record HoldsCodes (k : PrimaryCode) (codes : List WeightCode) : Type 0 where
  pub size : length codes ≡ 65536
  pub each : AreCodes k 65536 codes
  pub few : length k.anchors ≡ 27

-- a code as its lists
abbrev pub coded_code : Coded PrimaryCode
coded_code =
    code_by (List ℕ × (List ℕ × List ℕ)) (coded× (coded_list coded_ℕ) (coded× (coded_list coded_ℕ) (coded_list coded_ℕ)))
    (λ k. (k.commons, (k.singles, k.anchors))) (λ p. record { commons = p.0; singles = p.1.0; anchors = p.1.1 }) (λ _. refl)

-- ---- windows

-- a byte is all that a weight takes where the window begins at another, and the window stays; and whether it begins an implicit pair
pub record IsAlone (pair : Bool) (k : PrimaryCode) (base w byte : ℕ) : Type 0 where
  pub alone : letter_bytes k base w ≡ byte ∷ []
  pub stays : base_after k base w ≡ base
  pub first : (w / 256 == 0xFB) ≡ pair

-- a list has the byte of each such weight, from FB00 on; where it has zero it says nothing
abbrev pub AreFirsts : PrimaryCode → ℕ → List ℕ → Type 0
AreFirsts k base bytes = (w d : ℕ) → 0xFB00 ≤ w → w < 0xFC00 → 0 < get_or bytes (w - 0xFB00) d → IsAlone true k base w (get_or bytes (w - 0xFB00) d)

-- a list has the byte of each weight that takes only one; where it has zero it says nothing, nor does it of the weight zero
abbrev pub AreShort : PrimaryCode → ℕ → List ℕ → Type 0
AreShort k base bytes = (w d : ℕ) → 0 < w → w < length bytes → 0 < get_or bytes w d → IsAlone false k base w (get_or bytes w d)

-- where a window lies by a code
pub record IsPlaced (k : PrimaryCode) (window : Window) : Type 0 where
  pub slot : window.slot ≡ slot k window.base
  pub lead : window.lead ≡ lead k window.base
  pub most : window.lead ≤ 135

-- what a code has of a window
pub record IsWindow (k : PrimaryCode) (window : Window) : Type 0 where
  pub placed : IsPlaced k window
  pub short : AreShort k window.base window.bytes.items
  pub firsts : AreFirsts k window.base window.first_bytes

-- a window of each weight at which one begins
pub record AreWindows (k : PrimaryCode) (windows : List Window) : Type 0 where
  pub size : length windows ≡ length k.anchors
  pub some : 0 < length windows
  pub base : (i : ℕ) (d : Window) → i < length windows → (get_or windows i d).base ≡ get_or k.anchors i 0
  pub each : (i : ℕ) (d : Window) → i < length windows → IsWindow k (get_or windows i d)
