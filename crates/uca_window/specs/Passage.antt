-- What a `Passage` shows.
use Rattle.std.specs.Prelude.{ℕ, List, chars}
use Rattle.uca_window.specs.declared.passage.Passage.{Passage}

-- its bytes
abbrev pub bytes_of : Passage → List ℕ
bytes_of p = p.text.now

-- its characters
abbrev pub text_of : Passage → List ℕ
text_of p = chars (bytes_of p)
