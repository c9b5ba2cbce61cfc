-- What an insertion returns.
use Rattle.uca_table.proofs.Common.{◌≡◌, ℕ, ◌≤◌, List, length, Result, Ok, Err, OnOk, OnErr, arith, ne_eqb, le-ltb, entries, entries-from_sorted, get-entries, Element, MAX_KEY, MAX_ELEMENTS, ElementTable, common_steps}
use Rattle.uca_table.specs.Builder.{insert_fault, known_fault}
use Rattle.uca_table.proofs.EntryLemmas.{from_sorted-put}
use Rattle.uca_table.proofs.RangeLemmas.{ranges-put}

-- within the limits a repeated key is the only fault
pub fault_within : (t : ElementTable) (key : List ℕ) (es : List Element) → 1 ≤ length key → length key ≤ MAX_KEY → 1 ≤ length es → length es ≤ MAX_ELEMENTS → insert_fault t key es ≡ known_fault (entries t.entries) key
fault_within t key es some few some_es few_es = grind (arith, common_steps, ne_eqb, le-ltb, get-entries)

-- a fact of an `Ok` turned into another
pub on_ok : {A E : Type 0} (P Q : Type 0) (r : Result A E) → (P → Q) → OnOk r P → OnOk r Q
on_ok P Q (Ok x) f h = f h
on_ok P Q (Err e) f h = tt

-- what holds anyway holds at an `Err`
pub on_err : {A E : Type 0} {P : Type 0} (r : Result A E) → P → OnErr r P
on_err (Ok x) p = tt
on_err (Err e) p = p

-- a fact that holds whichever way a call went
pub either_way : {A E : Type 0} (P Q C : Type 0) (r : Result A E) → OnOk r P → OnErr r Q → (P → C) → (Q → C) → C
either_way P Q C (Ok x) p q f g = f p
either_way P Q C (Err e) p q f g = g q

pub ruleset inserting = (common_steps, fault_within, entries-from_sorted, from_sorted-put)

pub ruleset adding = (common_steps, ranges-put, either_way)
