-- What the calls of a collator answer, by its table.
use Rattle.std.specs.Prelude.{◌≡◌, ◌≢◌, ℕ, Bool, ◌-◌, ◌^◌, min, List, [], length, Option, Some, None, Result, Ok, Err, MatchResult, chars}
use Rattle.std.specs.Option.{option_map, option_map_or}
use Rattle.std.specs.declared.cmp.Ordering.{Ordering}
use Rattle.sha2.specs.Sha256.{sha256}
use Rattle.uca_model.specs.Lines.{IsTextLine}
use Rattle.uca_model.specs.Prefix.{end_of_prefix, is_complete, primary_key}
use Rattle.uca_model.specs.SortKey.{key_order, sort_key}
use Rattle.uca_model.specs.Table.{ElementTable}
use Rattle.uca_weights.specs.declared.settings.Settings.{Settings}
use Rattle.uca_weights.specs.declared.settings.Variable.{Variable}
use Rattle.uca_key.specs.PackedKey.{packed_key, packed_prefix}
use Rattle.uca_handle.specs.Fingerprint.{fingerprinted}
use Rattle.uca_handle.specs.Opening.{SaysTable, RefusesTable}
use Rattle.uca_key.specs.Placing.{with_front}
use Rattle.uca_window.specs.TextFaults.{IsFault}
use Rattle.uca_handle.specs.declared.bounds.BoundsSize.{BoundsSize}
use Rattle.uca_handle.specs.declared.faults.BoundsFault.{BoundsFault}
use Rattle.uca_handle.specs.declared.faults.BoundsFault.TheVariants as bounds
use Rattle.uca_handle.specs.declared.faults.CompareFault.{CompareFault}
use Rattle.uca_handle.specs.declared.faults.CompareFault.TheVariants as compare
use Rattle.uca_handle.specs.declared.faults.FingerprintFault.{FingerprintFault}
use Rattle.uca_handle.specs.declared.faults.FingerprintFault.TheVariants as fingerprint
use Rattle.uca_handle.specs.declared.faults.KeyFault.{KeyFault}
use Rattle.uca_handle.specs.declared.faults.KeyFault.TheVariants as key
use Rattle.uca_handle.specs.declared.faults.OpenFault.{OpenFault}
use Rattle.uca_handle.specs.declared.faults.ShareFault.{ShareFault}
use Rattle.uca_handle.specs.declared.faults.ShareFault.TheVariants as share
use Rattle.uca_window.specs.declared.fault.TextFault.{TextFault}

-- a collator has the table that two texts say
pub record HasTable (table rules : List ℕ) (held : Option ElementTable) : Type 0 where
  pub t : ElementTable
  pub has : held ≡ Some t
  pub says : SaysTable table rules t

-- opening a collator gives it the table of two texts, or leaves it as it was
abbrev pub Opens : List ℕ → List ℕ → Option ElementTable → Option ElementTable → Result (Unit {0}) OpenFault → Type 0
Opens table rules old new (Ok _) = HasTable table rules new
Opens table rules old new (Err f) = RefusesTable table rules f × (new ≡ old)

-- another collator gets the table of one that has it, or stays as it was
abbrev pub Shares : Option ElementTable → Option ElementTable → Option ElementTable → Result (Unit {0}) ShareFault → Type 0
Shares (Some t) old new (Ok _) = new ≡ Some t
Shares None old new (Ok _) = ⊥
Shares (Some t) old new (Err share.Closed) = ⊥
Shares None old new (Err share.Closed) = new ≡ old
Shares (Some t) old new (Err share.OutOfMemory) = new ≡ old
Shares None old new (Err share.OutOfMemory) = ⊥

-- bytes are a text that can be collated, or have this fault
abbrev pub Checks : List ℕ → Result (Unit {0}) TextFault → Type 0
Checks text (Ok _) = IsTextLine text
Checks text (Err f) = IsFault text f

-- the first of two texts that is none has this fault, or both are texts
abbrev pub TellsFault : List ℕ → List ℕ → Option CompareFault → Type 0
TellsFault a b None = IsTextLine a × IsTextLine b
TellsFault a b (Some compare.Closed) = ⊥
TellsFault a b (Some (compare.First f)) = IsFault a f
TellsFault a b (Some (compare.Second f)) = IsTextLine a × IsFault b f

-- two texts are compared by a table
pub record IsOrder (t : ElementTable) (s : Settings) (a b : List ℕ) (order : Ordering) : Type 0 where
  pub first : IsTextLine a
  pub second : IsTextLine b
  pub is : order ≡ key_order (sort_key t s (chars a)) (sort_key t s (chars b))

-- two texts are compared by a table, or the first that is none has this fault
abbrev pub ComparesBy : ElementTable → Settings → List ℕ → List ℕ → Result Ordering CompareFault → Type 0
ComparesBy t s a b result = MatchResult result (IsOrder t s a b) (λ f. TellsFault a b (Some f))

-- the same by a collator, which may have no table
abbrev pub Compares : Option ElementTable → Settings → List ℕ → List ℕ → Result Ordering CompareFault → Type 0
Compares None s a b result = result ≡ Err compare.Closed
Compares (Some t) s a b result = ComparesBy t s a b result

-- bytes that are no text have this fault, or an allocation failed
abbrev pub Refuses : List ℕ → KeyFault → Type 0
Refuses text key.Closed = ⊥
Refuses text (key.Text f) = IsFault text f
Refuses text key.OutOfMemory = IsTextLine text

-- a key of a text is in the front of a buffer, and this is its length
pub record IsKeyIn (bytes text before after : List ℕ) (size : ℕ) : Type 0 where
  pub safe : IsTextLine text
  pub length_is : size ≡ length bytes
  pub written : after ≡ with_front bytes before

-- a key of a text, which has these bytes, is made, or the buffer stays as it was
abbrev pub MakesKeyBy : List ℕ → List ℕ → List ℕ → List ℕ → Result ℕ KeyFault → Type 0
MakesKeyBy bytes text before after result = MatchResult result (IsKeyIn bytes text before after) (λ f. Refuses text f × (after ≡ before))

-- the sort key is made by a collator, which may have no table
abbrev pub MakesKey : Option ElementTable → Settings → List ℕ → List ℕ → List ℕ → Result ℕ KeyFault → Type 0
MakesKey None s text before after result = (result ≡ Err key.Closed) × (after ≡ before)
MakesKey (Some t) s text before after result = MakesKeyBy (sort_key t s (chars text)) text before after result

-- the same of the packed sort key
abbrev pub MakesPackedKey : Option ElementTable → Settings → List ℕ → List ℕ → List ℕ → Result ℕ KeyFault → Type 0
MakesPackedKey None s text before after result = (result ≡ Err key.Closed) × (after ≡ before)
MakesPackedKey (Some t) s text before after result = MakesKeyBy (packed_key t s (chars text)) text before after result

-- the key of a text under a table is in the front of a buffer, and this is its length, which stops at 2^64 - 1
pub record IsKeyWritten (t : ElementTable) (s : Settings) (text before after : List ℕ) (size : ℕ) : Type 0 where
  pub safe : IsTextLine text
  pub length_is : size ≡ min (length (sort_key t s (chars text))) (2 ^ 64 - 1)
  pub written : after ≡ with_front (sort_key t s (chars text)) before

-- the key is written without memory, or the buffer stays as it was
abbrev pub WritesKeyBy : ElementTable → Settings → List ℕ → List ℕ → List ℕ → Result ℕ KeyFault → Type 0
WritesKeyBy t s text before after result = MatchResult result (IsKeyWritten t s text before after) (λ f. (f ≢ key.OutOfMemory) × Refuses text f × (after ≡ before))

-- the same by a collator, which may have no table
abbrev pub WritesKey : Option ElementTable → Settings → List ℕ → List ℕ → List ℕ → Result ℕ KeyFault → Type 0
WritesKey None s text before after result = (result ≡ Err key.Closed) × (after ≡ before)
WritesKey (Some t) s text before after result = WritesKeyBy t s text before after result

-- the bytes of an end of a range of keys: none where there is no end
abbrev pub end_bytes : Option (List ℕ) → List ℕ
end_bytes end = option_map_or (λ bytes. bytes) end []

-- the two ends of the range of byte strings that begin with these bytes are in the fronts of two buffers, these are their lengths, and this is whether a text is complete
pub record AreEndsIn (prefix : List ℕ) (told : Bool) (lower_before lower_after upper_before upper_after : List ℕ) (size : BoundsSize) : Type 0 where
  pub complete : size.complete ≡ told
  pub lower_is : size.lower ≡ length prefix
  pub lower_written : lower_after ≡ with_front prefix lower_before
  pub upper_is : size.upper ≡ option_map length (end_of_prefix prefix)
  pub upper_some : size.upper ≢ Some 0
  pub upper_written : upper_after ≡ with_front (end_bytes (end_of_prefix prefix)) upper_before

-- the two ends are found with whether a text is complete, or both buffers stay as they were
abbrev pub PutsEndsBy : List ℕ → Bool → List ℕ → List ℕ → List ℕ → List ℕ → List ℕ → Result BoundsSize BoundsFault → Type 0
PutsEndsBy prefix complete text lower lower_after upper upper_after (Ok size) = IsTextLine text × AreEndsIn prefix complete lower lower_after upper upper_after size
PutsEndsBy prefix complete text lower lower_after upper upper_after (Err bounds.Closed) = ⊥
PutsEndsBy prefix complete text lower lower_after upper upper_after (Err (bounds.Text f)) = IsFault text f × (lower_after ≡ lower) × (upper_after ≡ upper)
PutsEndsBy prefix complete text lower lower_after upper upper_after (Err bounds.OutOfMemory) = IsTextLine text × (lower_after ≡ lower) × (upper_after ≡ upper)

-- the bounds of the keys of all texts whose primary weights begin with those of a text are found by a collator, which may have no
-- table: the keys begin with the text's key at the strength Primary
abbrev pub PutsBounds : Option ElementTable → Variable → List ℕ → List ℕ → List ℕ → List ℕ → List ℕ → Result BoundsSize BoundsFault → Type 0
PutsBounds None v text lower lower_after upper upper_after result = (result ≡ Err bounds.Closed) × (lower_after ≡ lower) × (upper_after ≡ upper)
PutsBounds (Some t) v text lower lower_after upper upper_after result = PutsEndsBy (primary_key t v (chars text)) (is_complete t (chars text)) text lower lower_after upper upper_after result

-- the same of the packed keys: they begin with the first level of the text's packed key, without the end of the level
abbrev pub PutsPackedBounds : Option ElementTable → Variable → List ℕ → List ℕ → List ℕ → List ℕ → List ℕ → Result BoundsSize BoundsFault → Type 0
PutsPackedBounds None v text lower lower_after upper upper_after result = (result ≡ Err bounds.Closed) × (lower_after ≡ lower) × (upper_after ≡ upper)
PutsPackedBounds (Some t) v text lower lower_after upper upper_after result = PutsEndsBy (packed_prefix t v (chars text)) (is_complete t (chars text)) text lower lower_after upper upper_after result

-- the fingerprint of a table and settings
abbrev pub FingerprintsBy : ElementTable → Settings → Result (List ℕ) FingerprintFault → Type 0
FingerprintsBy t s result = MatchResult result (λ digest. digest ≡ sha256 (fingerprinted t s)) (λ f. f ≢ fingerprint.Closed)

-- the same by a collator, which may have no table
abbrev pub Fingerprints : Option ElementTable → Settings → Result (List ℕ) FingerprintFault → Type 0
Fingerprints None s result = result ≡ Err fingerprint.Closed
Fingerprints (Some t) s result = FingerprintsBy t s result
