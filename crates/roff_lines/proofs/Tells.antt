-- Bytes of a text line that are told one after another.
use Rattle.std.proofs.Common.{◌≡◌, ℕ, List, [], ◌∷◌, ◌++◌, refl, sym, ap, subst, ◌∙◌, append_assoc}
use Rattle.std.specs.List.{AllByRecursion}
use Rattle.page_model.specs.Events.{History}
use Rattle.page_model.specs.Telling.{bytes_told}
use Rattle.roff_lines.specs.Env.Kept.{Kept}
use Rattle.roff_lines.specs.Env.Stands.{StandsPlain}
use Rattle.roff_lines.specs.Env.Tells.{PlainlyTold, TellsPlain, TellsFront}

-- a history, and some bytes and others behind it
pub bytes_told-append : (xs ys : List ℕ) (h : History) → bytes_told (xs ++ ys) h ≡ bytes_told ys (bytes_told xs h)
bytes_told-append [] ys h = refl
bytes_told-append (b ∷ xs) ys h = bytes_told-append xs ys (bytes_told (b ∷ []) h)

-- some can be told, and others behind them
pub QuietlyTold-append : (line_cap : ℕ) (xs ys : List ℕ) (h : History) → PlainlyTold line_cap xs h
    → PlainlyTold line_cap ys (bytes_told xs h) → PlainlyTold line_cap (xs ++ ys) h
QuietlyTold-append line_cap [] ys h first second = second
QuietlyTold-append line_cap (b ∷ xs) ys h first second =
    (first.0, first.1, QuietlyTold-append line_cap xs ys (bytes_told (b ∷ []) h) first.2 second)

-- the others can, where all can
pub QuietlyTold-behind : (line_cap : ℕ) (xs ys : List ℕ) (h : History) → PlainlyTold line_cap (xs ++ ys) h
    → PlainlyTold line_cap ys (bytes_told xs h)
QuietlyTold-behind line_cap [] ys h told = told
QuietlyTold-behind line_cap (b ∷ xs) ys h told = QuietlyTold-behind line_cap xs ys (bytes_told (b ∷ []) h) told.2

-- some are told, and others behind them
pub Tells-append : (xs ys : List ℕ) (old mid new : Kept) → TellsPlain xs old mid → TellsPlain ys mid new → TellsPlain (xs ++ ys) old new
Tells-append xs ys old mid new first second = record {
  quiet = λ line_cap h s.
      QuietlyTold-append line_cap xs ys h (first.quiet line_cap h s) (second.quiet line_cap (bytes_told xs h) (first.stands line_cap h s));
  stands = λ line_cap h s.
      subst (λ told. StandsPlain line_cap told new) (sym (bytes_told-append xs ys h))
      (second.stands line_cap (bytes_told xs h) (first.stands line_cap h s));
  field = second.field ∙ first.field;
}

-- some in front are told, and then some of the rest
pub TellsFront-append : (bytes rest behind : List ℕ) (old mid new : Kept) → TellsFront bytes rest old mid
    → TellsFront rest behind mid new → TellsFront bytes behind old new
TellsFront-append bytes rest behind old mid new first second = record {
  front = first.front ++ second.front;
  joined = append_assoc first.front second.front behind ∙ ap (λ xs. first.front ++ xs) second.joined ∙ first.joined;
  told = Tells-append first.front second.front old mid new first.told second.told;
}

-- what holds of each of some bytes holds of each of the rest
pub AllByRecursion-behind : (P : ℕ → Type 0) (xs ys : List ℕ) → AllByRecursion P (xs ++ ys) → AllByRecursion P ys
AllByRecursion-behind P [] ys all = all
AllByRecursion-behind P (x ∷ xs) ys all = AllByRecursion-behind P xs ys all.1
