-- Arguments where no quote follows the quote before.
use Rattle.std.proofs.Common.{◌≡◌, refl, ◌∙◌, ap}
use Rattle.input_model.specs.Arguments.{Arguments, settled_at, settled, held, only_kept}
use Rattle.input_model.specs.declared.place.Place.{Place}
use Rattle.input_model.specs.declared.place.Place.TheVariants.{Between, InPlain, InQuotes, BehindQuote}
use Rattle.input_model.proofs.KeptArguments.{held-only_kept, held-settled, only_kept-settled}

-- they stay so
settled-settled_at : (place : Place) (a : Arguments) → a.place ≡ place → settled (settled_at place a) ≡ settled_at place a
settled-settled_at Between a is = ap (λ (there : Place). settled_at there a) is
settled-settled_at InPlain a is = ap (λ (there : Place). settled_at there a) is
settled-settled_at InQuotes a is = ap (λ (there : Place). settled_at there a) is
settled-settled_at BehindQuote a is = refl

-- so do those of them that are kept
pub settled-only_kept : (a : Arguments) → only_kept (settled (only_kept (settled a))) ≡ only_kept (settled a)
settled-only_kept a = only_kept-settled (settled a) ∙ ap only_kept (settled-settled_at a.place a refl)

-- and those hold as many bytes
pub held-only_kept-settled : (a : Arguments) → held (only_kept (settled a)) ≡ held a
held-only_kept-settled a = held-only_kept (settled a) ∙ held-settled a
