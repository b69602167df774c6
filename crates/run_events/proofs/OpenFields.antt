-- Whether a field or a word is open in an environment, by what it keeps.
use Rattle.std.proofs.Common.{◌≡◌, ℕ, not, ◌&&◌, Option, Some, None, ap, is_some}
use Rattle.page_model.specs.Events.{History}
use Rattle.page_model.specs.Words.{has_open_word as has_word_in}
use Rattle.page_model.specs.Fields.{Field, is_in_field, so_far, told_plainly}
use Rattle.page_model.specs.Behind.{has_open_word}
use Rattle.roff_lines.specs.Env.Kept.{Kept, KeptField}
use Rattle.roff_lines.specs.Env.Stands.{Stands, StandsTold}

-- a field is open where one is kept
open_told : (line_cap : ℕ) (h : History) (f : Option Field) (k : Kept) → StandsTold line_cap h f k → is_some k.field ≡ is_some f
open_told line_cap h None k s = ap (λ (o : Option KeptField). is_some o) s.no_field
open_told line_cap h (Some f) k s = ap (λ (o : Option KeptField). is_some o) s.field_is

-- a word is open where a word end would end one
word_told : (line_cap : ℕ) (h : History) (f : Option Field) (k : Kept) → StandsTold line_cap h f k
    → k.is_open ≡ (not (is_some f) && has_word_in (so_far (record { events = h; field = f })))
word_told line_cap h None k s = s.is_open
word_told line_cap h (Some f) k s = s.none_open

module _ (line_cap : ℕ) (h : History) (k : Kept) (s : Stands line_cap h k) where
  pub is_in_field-stands : is_some k.field ≡ is_in_field h
  is_in_field-stands = open_told line_cap (told_plainly h).events (told_plainly h).field k s

  pub has_open_word-stands : k.is_open ≡ has_open_word h
  has_open_word-stands = word_told line_cap (told_plainly h).events (told_plainly h).field k s
