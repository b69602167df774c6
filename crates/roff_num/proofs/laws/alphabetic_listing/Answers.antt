use Rattle.std.proofs.Common.{refl}
use Rattle.roff_num.specs.Alphabetic.{backward, word}
use Rattle.roff_num.proofs.Listing.{ComesBefore-word, IsOverLetters-word, place-word, word-between, word-place}
use Rattle.roff_num.proofs.laws.alphabetic_listing.Goals as goal

pub returns : goal.returns
unfolding word backward
returns c = record {
  empty_before_the_first = refl;
  of_letters = IsOverLetters-word;
  in_order = ComesBefore-word;
  each_is_listed = word-place;
  nothing_between = word-between;
  each_at_one_place = place-word;
}
