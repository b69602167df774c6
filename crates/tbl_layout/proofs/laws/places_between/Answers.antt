use Rattle.tbl_layout.proofs.PlacesBetween.{places-between}
use Rattle.tbl_layout.proofs.laws.places_between.Goals as goal

pub returns : goal.returns
returns c = places-between
