-- What is left of names and texts behind the line that ends a definition: nothing is given to a request or a body there.
use Rattle.std.proofs.Common.{◌≡◌, ℕ, ◌≤◌, Bool, true, false, List, [], ◌∷◌, length, Option, Some, None, inl, inr, refl, sym, ap, ◌∙◌, subst, ◌==◌, arith, ◌||◌, ◌&&◌, if◌then◌else◌, eqb-true}
use Rattle.std.proofs.lemmas.Bool.{cases_Bool}
use Rattle.input_source.specs.Bytes.{blank, newline, tab}
use Rattle.input_escapes.specs.OpenEscapes.{byte_read}
use Rattle.input_model.specs.Input.{beginning_line}
use Rattle.input_model.specs.Input.Calls.{last_result, without_last}
use Rattle.input_escapes.specs.declared.open_escape.Surroundings.TheVariants.{Arguments as AboveArguments}
use Rattle.roff_store.specs.Named.{Named}
use Rattle.roff_store.specs.TextCalls.{Call}
use Rattle.roff_store.specs.Texts.{Entry}
use Rattle.run_model.specs.Definitions.{ends_mark}
use Rattle.run_model.specs.Reading.Arguments.{arguments_ended, calling_all, ended_by, line_ended}
use Rattle.run_model.specs.Reading.Branches.{branch_taking, reads_else}
use Rattle.run_model.specs.Reading.ControlLines.{called_taking, line_taking}
use Rattle.run_model.specs.Reading.DefinedLines.{behind_definition}
use Rattle.run_model.specs.Reading.Found.{read_in}
use Rattle.run_model.specs.Reading.Items.{PageInput, Taking}
use Rattle.run_model.specs.Registers.{AllRegisters, Change, Known, changed_by_all}
use Rattle.run_model.specs.declared.event.PageEvent.TheVariants.{Back, Page}
use Rattle.run_model.specs.Requests.{Effect, called_by, meant_by, request_effect, row_of}
use Rattle.run_model.specs.Requests.Effects.{happens, no_such_environment, nothing}
use Rattle.run_model.specs.Requests.Paging.{page_ejected}
use Rattle.page_model.specs.Queries.{is_diverting}
use Rattle.page_model.specs.declared.layout_event.LayoutEvent.TheVariants.{Eject}
use Rattle.run_model.specs.TitleTexts.{TitleText, title_length}
use Rattle.run_model.specs.declared.line_state.LineState.TheVariants.{TitleFront, Collecting}
use Rattle.run_model.specs.declared.purpose.Purpose.TheVariants.{Arguments as InArguments}
use Rattle.roff_num.specs.declared.short_name.ShortName.{ShortName}
use Rattle.run_model.specs.declared.request.Called.{Called}
use Rattle.run_model.specs.declared.request.Called.TheVariants.{Request as ARequest, Body as ABody, Nothing as Unknown}
use Rattle.run_model.specs.declared.request.LineReading.{LineReading}
use Rattle.run_model.specs.declared.request.LineReading.TheVariants.{ByArguments, ByCondition, ByElse, ByLastLine, ByMessage, ByString, ByLines, ByTitle}
use Rattle.run_model.specs.declared.request.LinesFor.TheVariants.{Macro, Nobody}
use Rattle.run_model.specs.declared.request.Request.{Request}
use Rattle.run_model.specs.declared.request.Request.TheVariants.{BeginPage, Environment as SwitchEnvironment}

-- what names stand for, how many did at first, and the texts in the making
pub record NamesAndTexts : Type 0 where
  pub names : Named Entry
  pub first_names : ℕ
  pub open_texts : List (List ℕ)

abbrev pub names_and_texts : PageInput → NamesAndTexts
names_and_texts i = record { names = i.names; first_names = i.first_names; open_texts = i.open_texts }

-- a step leaves them as they are in this input, as many registers have names, and the title has no more bytes
pub record LeavesTexts (i : PageInput) (t : Taking) : Type 0 where
  pub texts : names_and_texts t.input ≡ names_and_texts i
  pub registers : (rs : AllRegisters) → length (changed_by_all t.effect.changes rs).named ≡ length rs.named
  pub title : (rs : AllRegisters) → title_length (changed_by_all t.effect.changes rs).title ≤ title_length rs.title

-- one that changes no register
still : (i : PageInput) (t : Taking) → names_and_texts t.input ≡ names_and_texts i → t.effect.changes ≡ [] → LeavesTexts i t
still i t texts none = record {
  texts = texts;
  registers = λ rs. ap (λ (changes : List Change). length (changed_by_all changes rs).named) none;
  title = λ rs. omega (arith, ap (λ (changes : List Change). title_length (changed_by_all changes rs).title) none);
}

-- what limits are on of registers: the names that have one, and the title that is read
record Counted : Type 0 where
  names : ℕ
  title : TitleText

abbrev counted : AllRegisters → Counted
counted rs = record { names = length rs.named; title = rs.title }

-- an effect calls nothing, as many registers have names, and the title stays
record CallsNothing (e : Effect) : Type 0 where
  calls : e.calls ≡ []
  registers : (rs : AllRegisters) → counted (changed_by_all e.changes rs) ≡ counted rs

-- that of going back to an environment, if one was left
CallsNothing-switch : (breaks has_left : Bool) → CallsNothing (meant_by breaks (if has_left then happens [] (Back ∷ []) else no_such_environment))
CallsNothing-switch breaks true = record { calls = refl; registers = λ rs. refl }
CallsNothing-switch breaks false = record { calls = refl; registers = λ rs. refl }

-- that of ejecting a page, unless a diversion is open
CallsNothing-eject : (breaks is_diverting : Bool) (asked : ℕ)
    → CallsNothing (meant_by breaks (if is_diverting then nothing else happens [] (Page (Eject asked) ∷ [])))
CallsNothing-eject breaks true asked = record { calls = refl; registers = λ rs. refl }
CallsNothing-eject breaks false asked = record { calls = refl; registers = λ rs. refl }

-- that of a request without arguments
CallsNothing-request : (k : Known) (breaks : Bool) (request : Request) → CallsNothing (request_effect k breaks request [])
CallsNothing-request k breaks BeginPage = CallsNothing-eject (breaks && true) (is_diverting k.layout) (page_ejected k.layout)
CallsNothing-request k breaks SwitchEnvironment = CallsNothing-switch (breaks && false) k.has_left
CallsNothing-request k breaks (_) = record { calls = refl; registers = λ rs. refl }

-- the end of the line of a request that calls nothing
LeavesTexts-ended_by : (i : PageInput) (request : Request) (e : Effect) → CallsNothing e → LeavesTexts i (ended_by (beginning_line i) request e)
LeavesTexts-ended_by i request e nothing = record {
  texts = ap (λ (calls : List Call). names_and_texts (calling_all calls (beginning_line i))) nothing.calls;
  registers = λ rs. ap (λ (c : Counted). c.names) (nothing.registers rs);
  title = λ rs. omega (arith, ap (λ (c : Counted). title_length c.title) (nothing.registers rs));
}

LeavesTexts-line_ended : (k : Known) (i : PageInput) (breaks : Bool) (request : Request) → LeavesTexts i (line_ended k (beginning_line i) breaks request)
LeavesTexts-line_ended k i breaks request = LeavesTexts-ended_by i request (request_effect k breaks request []) (CallsNothing-request k breaks request)

-- and where nothing is given no text is begun
LeavesTexts-arguments_ended : (k : Known) (i : PageInput) (breaks : Bool) (request : Request) (line : LineReading)
    → LeavesTexts i (arguments_ended k (beginning_line i) breaks request line)
LeavesTexts-arguments_ended k i breaks request (ByLines (Macro appends)) = still i _ refl refl
LeavesTexts-arguments_ended k i breaks request (ByLines Nobody) = still i _ refl refl
LeavesTexts-arguments_ended k i breaks request ByArguments = LeavesTexts-line_ended k i breaks request
LeavesTexts-arguments_ended k i breaks request (ByCondition keeps) = LeavesTexts-line_ended k i breaks request
LeavesTexts-arguments_ended k i breaks request ByTitle = LeavesTexts-line_ended k i breaks request
LeavesTexts-arguments_ended k i breaks request ByElse = LeavesTexts-line_ended k i breaks request
LeavesTexts-arguments_ended k i breaks request ByLastLine = LeavesTexts-line_ended k i breaks request
LeavesTexts-arguments_ended k i breaks request (ByMessage aborts) = LeavesTexts-line_ended k i breaks request
LeavesTexts-arguments_ended k i breaks request (ByString appends) = LeavesTexts-line_ended k i breaks request

-- what holds of each byte that may stand behind the mark
record BehindMark (P : ℕ → Type 0) : Type 0 where
  at_blank : P blank
  at_tab : P tab
  at_newline : P newline

-- a byte that is one or the other
by_byte : (P : ℕ → Type 0) (b c : ℕ) (rest : Bool) → ((b == c) || rest) ≡ true → P c → (rest ≡ true → P b) → P b
by_byte P b c rest is here others = elim (cases_Bool (b == c)) [
  | inl same ↦ subst P (sym (eqb-true b c same)) here
  | inr differs ↦ others (sym (ap (λ (d : Bool). d || rest) differs) ∙ is)
]

of_mark : (P : ℕ → Type 0) (b : ℕ) → BehindMark P → ends_mark b ≡ true → P b
of_mark P b all is =
    by_byte P b blank (b == tab || b == newline) is all.at_blank (λ behind.
    by_byte P b tab (b == newline) behind all.at_tab (λ last. subst P (sym (eqb-true b newline last)) all.at_newline))

-- the first byte of the other branch
LeavesTexts-branch : (k : Known) (i : PageInput) (so : Bool) → BehindMark (λ b. LeavesTexts i (branch_taking k (without_last (beginning_line i)) so b))
LeavesTexts-branch k i true = record { at_blank = still i _ refl refl; at_tab = still i _ refl refl; at_newline = still i _ refl refl }
LeavesTexts-branch k i false = record { at_blank = still i _ refl refl; at_tab = still i _ refl refl; at_newline = still i _ refl refl }

-- the byte behind the name of a request that reads arguments
LeavesTexts-arguments : (k : Known) (i : PageInput) (breaks : Bool) (request : Request)
    → BehindMark (λ b. LeavesTexts i (read_in k (Collecting (InArguments breaks request)) (beginning_line i) (byte_read AboveArguments [] b)))
LeavesTexts-arguments k i breaks request = record {
  at_blank = still i _ refl refl;
  at_tab = still i _ refl refl;
  at_newline = LeavesTexts-arguments_ended k i breaks request (row_of request).line;
}

-- behind that of the request for a title, where there is none yet
LeavesTexts-title : (k : Known) (i : PageInput) → BehindMark (λ b. LeavesTexts i (read_in k TitleFront (beginning_line i) (byte_read AboveArguments [] b)))
LeavesTexts-title k i = record {
  at_blank = still i _ refl refl;
  at_tab = record { texts = refl; registers = λ rs. refl; title = λ rs. omega arith };
  at_newline = record { texts = refl; registers = λ rs. refl; title = λ rs. omega arith };
}

-- and behind any request's name
LeavesTexts-line : (k : Known) (i : PageInput) (breaks : Bool) (request : Request) (line : LineReading)
    → BehindMark (λ b. LeavesTexts i (line_taking k (beginning_line i) breaks request line b))
LeavesTexts-line k i breaks request ByArguments = LeavesTexts-arguments k i breaks request
LeavesTexts-line k i breaks request ByLastLine = LeavesTexts-arguments k i breaks request
LeavesTexts-line k i breaks request (ByLines lines) = LeavesTexts-arguments k i breaks request
LeavesTexts-line k i breaks request (ByCondition true) = record { at_blank = still i _ refl refl; at_tab = still i _ refl refl; at_newline = still i _ refl refl }
LeavesTexts-line k i breaks request (ByCondition false) = record { at_blank = still i _ refl refl; at_tab = still i _ refl refl; at_newline = still i _ refl refl }
LeavesTexts-line k i breaks request (ByString appends) = record { at_blank = still i _ refl refl; at_tab = still i _ refl refl; at_newline = still i _ refl refl }
LeavesTexts-line k i breaks request (ByMessage aborts) = record { at_blank = still i _ refl refl; at_tab = still i _ refl refl; at_newline = still i _ refl refl }
LeavesTexts-line k i breaks request ByTitle = LeavesTexts-title k i
LeavesTexts-line k i breaks request ByElse = LeavesTexts-branch k i (reads_else (last_result i))

-- behind a name that a line begins with
LeavesTexts-called : (k : Known) (i : PageInput) (breaks : Bool) (called : Called)
    → BehindMark (λ b. LeavesTexts i (called_taking k (beginning_line i) breaks called b))
LeavesTexts-called k i breaks (ARequest request) = LeavesTexts-line k i breaks request (row_of request).line
LeavesTexts-called k i breaks (ABody name) = record { at_blank = still i _ refl refl; at_tab = still i _ refl refl; at_newline = still i _ refl refl }
LeavesTexts-called k i breaks Unknown = record { at_blank = still i _ refl refl; at_tab = still i _ refl refl; at_newline = still i _ refl refl }

-- behind the mark
LeavesTexts-each : (k : Known) (i : PageInput) (end : Option ShortName) → BehindMark (λ b. LeavesTexts i (behind_definition k i end b))
LeavesTexts-each k i None = record { at_blank = still i _ refl refl; at_tab = still i _ refl refl; at_newline = still i _ refl refl }
LeavesTexts-each k i (Some name) = LeavesTexts-called k i true (called_by name i.names)

pub LeavesTexts-behind_definition : (k : Known) (i : PageInput) (end : Option ShortName) (b : ℕ) → ends_mark b ≡ true
    → LeavesTexts i (behind_definition k i end b)
LeavesTexts-behind_definition k i end b is = of_mark (λ b. LeavesTexts i (behind_definition k i end b)) b (LeavesTexts-each k i end) is
