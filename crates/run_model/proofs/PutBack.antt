-- Events that are put back count as nothing else, and are few.
use Rattle.std.proofs.Common.{◌≡◌, List, [], ◌∷◌, ◌++◌, refl, arith, map}
use Rattle.input_model.specs.Input.{Ahead, DoAhead, bytes_ahead, ends_ahead}
use Rattle.run_model.specs.PageEvents.{PageEvent}
use Rattle.run_model.specs.TurnsToCome.{free_ahead}

pub bytes_ahead-back : (events : List PageEvent) (items : List (Ahead PageEvent)) → bytes_ahead (map DoAhead events ++ items) ≡ bytes_ahead items
bytes_ahead-back [] items = refl
bytes_ahead-back (e ∷ events) items = bytes_ahead-back events items

pub ends_ahead-back : (events : List PageEvent) (items : List (Ahead PageEvent)) → ends_ahead (map DoAhead events ++ items) ≡ ends_ahead items
ends_ahead-back [] items = refl
ends_ahead-back (e ∷ events) items = ends_ahead-back events items

pub free_ahead-back : (events : List PageEvent) (items : List (Ahead PageEvent)) → free_ahead (map DoAhead events ++ items) ≡ free_ahead items
free_ahead-back [] items = refl
free_ahead-back (e ∷ events) items = free_ahead-back events items
