-- The rules of a tailoring (UTS #35, Part 5, Collation, 3, Rules): chains of relations, each chain after a reset.
use Rattle.std.specs.Prelude.{ℕ, ◌≤◌, List, length, map, flat_map, All}
use Rattle.std.specs.Char.{IsScalar}
use Rattle.uca_weights.specs.declared.limits.TheConstants.{MAX_KEY, MAX_RELATIONS}

-- the operators of relations (UTS #35, 3.5, Orderings): a difference at the first, second or third level, or none
pub data Operator : Type 0 where
  first : Operator
  second : Operator
  third : Operator
  same : Operator

-- an item that is placed by what comes before it, with the string after its `/` (UTS #35, 3.6, Expansions); no code point stands for none
pub record Relation : Type 0 where
  pub op : Operator
  pub item : List ℕ
  pub expansion : List ℕ

-- a reset (UTS #35, 3.5, Orderings) and the relations after it
pub record Chain : Type 0 where
  pub reset : List ℕ
  pub relations : List Relation

-- the items of all relations, in order
abbrev pub items : List Chain → List (List ℕ)
items cs = flat_map (λ c. map (λ r. r.item) c.relations) cs

-- a reset or an item: 1 to 32 code points, which are scalar values
pub record IsString (string : List ℕ) : Type 0 where
  pub some : 1 ≤ length string
  pub few : length string ≤ MAX_KEY
  pub scalars : All IsScalar string

-- an item, and what may follow its `/`: at most 32 code points
pub record IsRelation (r : Relation) : Type 0 where
  pub item : IsString r.item
  pub expansion : length r.expansion ≤ MAX_KEY
  pub scalars : All IsScalar r.expansion

pub record IsChain (c : Chain) : Type 0 where
  pub reset : IsString c.reset
  pub relations : All IsRelation c.relations

-- what holds of all rules: at most 20,000 relations
pub record AreRules (cs : List Chain) : Type 0 where
  pub chains : All IsChain cs
  pub few : length (items cs) ≤ MAX_RELATIONS
