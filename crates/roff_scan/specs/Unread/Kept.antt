-- What the unread input keeps.
use Rattle.std.specs.Prelude.{◌≡◌, ◌≤◌, ◌<◌, ◌^◌, [], length, reverse, vec_capacity}
use Rattle.input_model.specs.Arguments.{Arguments}
use Rattle.input_model.specs.Input.{returns_ahead}
use Rattle.input_model.specs.Unread.{Unread, IsWithin, texts_within}
use Rattle.input_model.specs.declared.place.Place.TheVariants.{Between}
use Rattle.roff_scan.specs.declared.unread.Unread.TheInside.{Inside}
use Rattle.roff_store.specs.Named.{EachOnce}

-- what the fields keep
abbrev pub kept_by : {E : Type 0} → Inside E → Unread E
kept_by a = record {
  input = record {
    ahead = a.input_ahead.ahead;
    arguments = a.arguments.arguments;
    calls = a.calls.calls;
    escapes = a.escapes.escapes;
    results = reverse a.results.items;
    charge = a.charge;
    newlines = a.newlines;
    line = a.line;
    names = a.input_ahead.texts.names.entries;
    first_names = a.first_names;
    open_texts = a.input_ahead.texts.open_texts;
  };
  looked = a.looked;
  limits = a.limits;
}

-- between arguments none is begun
abbrev pub NoneBegun : Arguments → Type 0
NoneBegun a = a.place ≡ Between → a.begun ≡ []

-- there is room by the limits, and no count is above its limit
pub record IsSound {E : Type 0} (a : Inside E) : Type 0 where
  pub bytes : a.input_ahead.most_bytes ≡ a.limits.stack
  pub texts : a.input_ahead.most_texts ≡ a.limits.depth
  pub store : a.input_ahead.texts ≡ texts_within a.limits (kept_by a).input
  pub once : EachOnce a.input_ahead.texts.names.entries
  pub arguments : a.arguments.room ≡ a.limits.stack
  pub begun : NoneBegun a.arguments.arguments
  pub call_bytes : a.calls.most_bytes ≡ a.limits.stack
  pub most_calls : a.calls.most_calls ≡ a.limits.depth
  pub calls : returns_ahead a.input_ahead.ahead ≡ length a.calls.calls
  pub held : a.escapes.room ≡ a.limits.stack
  pub small : a.limits.stack < 2 ^ 32
  pub results : a.limits.conditions ≤ vec_capacity a.results
  pub within : IsWithin (kept_by a)
