-- What the keys of a table say about each code point, and how the marks are laid out in blocks.
use Rattle.std.specs.Prelude.{◌≡◌, ℕ, ◌==◌, Bool, true, false, not, ◌&&◌, ◌||◌, List, [], ◌∷◌, drop, length}
use Rattle.std.specs.List.{list_any, list_all}
use Rattle.std.specs.FinMap.{entries}
use Rattle.uca_weights.specs.declared.element.Element.{Element}
use Rattle.uca_model.specs.Table.{ElementTable}
use Rattle.uca_model.specs.CollationElements.{elements_or_implicit}
use Rattle.uca_model.specs.Prefix.{have_primaries_of, keeps_primaries}
use Rattle.uca_model.specs.SafeCut.{begins_with_primary, keeps_apart}
use Rattle.uca_model.specs.StandAlone.{is_first, is_longer_from, is_inside, begins, leads, continues, is_before_last, ends_matches}
use Rattle.uca_table.specs.Blocks.{IsBlocks, item_at}
use Rattle.uca_table.specs.declared.marks.Marks.{Marks}
use Rattle.uca_table.specs.declared.marks.MarkTable.{MarkTable}

-- what all keys say about a code point
abbrev pub marks : ElementTable → ℕ → Marks
marks t p = record { begins = begins t p; leads = leads t p; continues = continues t p; apart = list_all (keeps_apart p) (entries t.entries); ends = ends_matches t p; keeps = keeps_primaries t p }

-- what none says
abbrev pub Untouched : Marks
Untouched = record { begins = false; leads = false; continues = false; apart = true; ends = true; keeps = true }

-- what some keys say, and others
unfoldable pub join : Marks → Marks → Marks
join a b = record { begins = a.begins || b.begins; leads = a.leads || b.leads; continues = a.continues || b.continues; apart = a.apart && b.apart; ends = a.ends && b.ends; keeps = a.keeps && b.keeps }

-- a key that goes on after its first code point has the primary weights of that code point
abbrev pub keeps_longer : ElementTable → ℕ → List ℕ × List Element → Bool
keeps_longer t p e = not (is_longer_from p e.0) || have_primaries_of (elements_or_implicit t (p ∷ [])) e.1

-- what a key says about a code point
unfoldable pub said : ElementTable → ℕ → List ℕ × List Element → Marks
said t p e = record { begins = is_first p e.0; leads = is_longer_from p e.0; continues = is_inside p e.0; apart = keeps_apart p e; ends = not (is_before_last p (drop 1 e.0)); keeps = keeps_longer t p e }

-- what some keys say
unfoldable pub all_said : ElementTable → ℕ → List (List ℕ × List Element) → Marks
all_said t p es = record {
  begins = list_any (λ e. is_first p e.0) es;
  leads = list_any (λ e. is_longer_from p e.0) es;
  continues = list_any (λ e. is_inside p e.0) es;
  apart = list_all (keeps_apart p) es;
  ends = list_all (λ e. not (is_before_last p (drop 1 e.0))) es;
  keeps = list_all (keeps_longer t p) es;
}

-- what a key says about its first code point, by the others
abbrev pub first_marks : ElementTable → ℕ → List ℕ → List Element → Marks
first_marks t x others es = record { begins = true; leads = not (length others == 0); continues = false; apart = begins_with_primary es; ends = true; keeps = length others == 0 || have_primaries_of (elements_or_implicit t (x ∷ [])) es }

-- what it says about one after the first place, by those that follow
abbrev pub later_marks : List ℕ → Marks
later_marks after = record { begins = false; leads = false; continues = true; apart = false; ends = length after == 0; keeps = true }

-- what it says about a code point by those after the first place
unfoldable pub later : ℕ → List ℕ → Marks
later p xs = record { begins = false; leads = false; continues = list_any (λ x. x == p) xs; apart = not (list_any (λ x. x == p) xs); ends = not (is_before_last p xs); keeps = true }

-- what the keys so far say
abbrev pub marks_of : MarkTable → ℕ → Marks
marks_of x p = item_at Untouched x.blocks p

-- marks lie in blocks, of which there are 8704, for all code points
pub record AreMarks (x : MarkTable) : Type 0 where
  pub all : length x.blocks.numbers.items ≡ 8704
  pub blocks : IsBlocks Untouched x.blocks

-- the marks are those of the table
abbrev pub HoldsMarks : ElementTable → MarkTable → Type 0
HoldsMarks t x = AreMarks x × ((p : ℕ) → marks_of x p ≡ marks t p)
