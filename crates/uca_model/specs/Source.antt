-- A source of characters: a text that is read one character at a time, and again from its start or a mark, and that counts the calls.
use Rattle.std.specs.Prelude.{◌≡◌, ℕ, ◌+◌, ◌-◌, List, [], ◌∷◌, drop, Option, MatchOption}
use Rattle.uca_io.specs.Counts.{one_more}

-- its text, how many characters of it lie before the place and before the mark, none where there is no mark, and how often `next` and the ways back were called
pub record SourceState : Type 0 where
  pub text : List ℕ
  pub place : ℕ
  pub mark : ℕ
  pub reads : ℕ
  pub rewinds : ℕ

-- a source of a text that has not been called
abbrev pub source_of : List ℕ → SourceState
source_of text = record { text = text; place = 0; mark = 0; reads = 0; rewinds = 0 }

-- the characters from the place on
abbrev pub unread : SourceState → List ℕ
unread s = drop s.place s.text

-- `next` returned the character at the place and advanced by one, or returned none at the end, where the place stays
pub record GivesNext (old : SourceState) (given : Option ℕ) (new : SourceState) : Type 0 where
  pub text : new.text ≡ old.text
  pub value : MatchOption given ((unread old ≡ []) × (new.place ≡ old.place)) (λ c. (unread old ≡ c ∷ unread new) × (new.place ≡ old.place + 1))
  pub mark : new.mark ≡ old.mark
  pub reads : new.reads ≡ one_more old.reads
  pub rewinds : new.rewinds ≡ old.rewinds

-- the source with its place at the start, which is one more way back
abbrev pub restarted : SourceState → SourceState
restarted s = record s { place = 0; rewinds = one_more s.rewinds }

-- the source with its mark at the character before the place
abbrev pub marked : SourceState → SourceState
marked s = record s { mark = s.place - 1 }

-- the source with its place at the mark, or at the start where there is none, which is one more way back
abbrev pub rewound : SourceState → SourceState
rewound s = record s { place = s.mark; rewinds = one_more s.rewinds }
