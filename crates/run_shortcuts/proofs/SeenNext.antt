-- A byte that is seen next, ahead or of the source, is what what is half read waits for.
use Rattle.std.proofs.Common.{◌≡◌, ℕ, List, Option, Some, sym, ap, ◌∙◌, if◌then◌else◌}
use Rattle.roff_num.specs.declared.limits.Limits.{Limits}
use Rattle.input_model.specs.Looking.{is_closed, looked_then}
use Rattle.input_model.specs.Shown.{SeesNothing, Sighted, seen_ahead}
use Rattle.input_model.specs.declared.looked.Looked.{Looked}
use Rattle.input_source.specs.Tape.{Answer, Ended, Ends, Tape, front}
use Rattle.run_model.specs.Environments.{PageHistory}
use Rattle.run_model.specs.Reading.Items.{PageUnread}
use Rattle.run_model.specs.Run.{State, awaited, awaited_of_source, front_seen}
use Rattle.read_shortcuts.specs.Conditions.{OfAhead, OfReady, SeesNext}
use Rattle.run_turns.specs.declared.running.Running.{Running as Coded}
use Rattle.run_turns.specs.Running.Turning.{state_at}

-- it is looked at
pub awaits-next : (gave : Tape → Type 0) (old : Coded) (b : ℕ) → SeesNext b gave old.unread → (l : Limits) (tape : Tape) → gave tape → (h : PageHistory) (messages : List ℕ)
    → let s : State = state_at tape old h messages in awaited l (seen_ahead s.input.ahead) s ≡ front_seen l (Some b) s
awaits-next gave old b (OfAhead sees) l tape given h messages = let s : State = state_at tape old h messages in ap (λ (o : Option Sighted). awaited l o s) sees
awaits-next gave old b (OfReady none looked comes) l tape given h messages =
    let s : State = state_at tape old h messages in
    ap (λ (o : Option Sighted). awaited l o s) none
    ∙ ap (λ (a : Answer). awaited_of_source l a s)
    (ap (λ (seen : Looked). let answer : Answer = if is_closed seen then Ends Ended else front (looked_then seen tape) in answer) looked ∙ comes tape given)

-- no event stands in front of it
pub sees_on : {b : ℕ} {gave : Tape → Type 0} {u : PageUnread} → SeesNext b gave u → seen_ahead u.input.ahead ≡ Some SeesNothing → ⊥
sees_on (OfAhead sees) none = let wrong = sym sees ∙ none in cc
sees_on (OfReady unseen looked comes) none = let wrong = sym unseen ∙ none in cc
