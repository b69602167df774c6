-- What holds of a layout with boxes that are put, and where a page ends with them, holds behind them: what is diverted ends none.
use Rattle.std.proofs.Common.{Bool, true, false}
use Rattle.page_model.specs.Layout.{Layout}
use Rattle.page_model.specs.Turning.{turned_if_full, turned_unless}

pub put-holds : (P : Layout → Type 0) (diverted : Bool) (N : Layout) → P N → P (turned_if_full N) → P (turned_unless diverted N)
put-holds P true N stays turned = stays
put-holds P false N stays turned = turned
