-- What a request answers: three events at the most, each of them meant, none of which opens a diversion; or an event that opens one,
-- alone; or tab stops. It says one thing at the most, and its calls leave the texts in the making.
--
-- Each request has its lemma here, unless it does the same whatever is known and given. What else is proved of requests is over what
-- they answer.
use Rattle.roff_num.specs.declared.num.Scale.TheVariants.{Units}
use Rattle.run_model.specs.Numbers.{value_beside, value_in}
use Rattle.std.proofs.Common.{◌<◌, ℕ, zero, suc, arith, ℤ, Bool, true, false, List, [], ◌∷◌, map, Option, Some, None, pos, negsuc, take, Result, Ok, Err, if◌then◌else◌, ◌==◌, length}
use Rattle.page_model.specs.declared.event.Event.TheVariants.{Set as SetParam}
use Rattle.page_model.specs.declared.settings.AdjustMode.{AdjustMode}
use Rattle.page_model.specs.declared.settings.Param.{Param}
use Rattle.page_model.specs.declared.settings.Param.TheVariants.{NoStops}
use Rattle.page_model.specs.declared.stop.StopKind.{StopKind}
use Rattle.roff_num.specs.declared.format.Format.{Format}
use Rattle.roff_num.specs.declared.num.Num.{Num}
use Rattle.roff_num.specs.declared.num.NumFault.{NumFault}
use Rattle.roff_num.specs.declared.short_name.ShortName.{ShortName}
use Rattle.roff_store.specs.TextCalls.{Call, Append, Remove, Rename as RenameCall, Set}
use Rattle.run_model.specs.Environments.{environment_numbered}
use Rattle.run_model.specs.Registers.{Known, value_in_force}
use Rattle.run_model.specs.Requests.{row_of}
use Rattle.run_model.specs.PageEvents.{PageEvent}
use Rattle.run_model.specs.declared.event.PageEvent.TheVariants.{Page, Text}
use Rattle.run_model.specs.Requests.Adjustment.{adjusting_in, centre, centring, mode_wanted}
use Rattle.run_model.specs.Requests.Effects.{Response, Around, Ignored, Obeyed, happens, nothing, page_numbered}
use Rattle.run_model.specs.Requests.Lengths.{length_set, length_wanted, setting_length, temporary_indent}
use Rattle.run_model.specs.Requests.Naming.{removals, rename}
use Rattle.run_model.specs.Requests.Numbering.{assign_format, format_as, if_named, increment_given, name_given, names_given, number_of_page, set_register, set_to}
use Rattle.roff_num.specs.Ranges.{number}
use Rattle.run_model.specs.Requests.Paging.{begin_page, ejected, ejected_by, ejected_to, lines_on_page, lines_set, next_numbered, offset_to, page_asked, page_ejected, page_length, page_number, page_of}
use Rattle.run_model.specs.Requests.Spacing.{line_spacing, need, needed, space_down, spaced, spacing}
use Rattle.run_model.specs.Requests.Springing.{input_trap, trap_set}
use Rattle.run_model.specs.Requests.Switching.{switch, switching_by, switching_to}
use Rattle.run_model.specs.Requests.Diverting.{diverted, diversion_trap, diversion_trapped}
use Rattle.run_model.specs.Requests.Traps.{change_trap, moved, moved_if_named, place_given, plant_trap, planted}
use Rattle.run_model.specs.Requests.Tabs.{most_stops, setting_stops, stop_places, stop_set}
use Rattle.page_model.specs.declared.layout_event.LayoutEvent.TheVariants.{Divert as DivertEvent, Eject, EjectTo, Length, Next}
use Rattle.page_model.specs.Layout.{Layout}
use Rattle.page_model.specs.Queries.{is_diverting}
use Rattle.roff_num.specs.ShortNames.{name_at, name_or_none}
use Rattle.run_model.specs.declared.message.Message.{Message}
use Rattle.run_model.specs.declared.message.Message.TheVariants.{PageTooShort}
use Rattle.run_model.specs.declared.environment_number.EnvironmentNumber.{EnvironmentNumber}
use Rattle.run_model.specs.declared.request.Request.{Request}
use Rattle.run_model.specs.declared.request.Request.TheVariants.{Adjust, AppendDiversion, AssignFormat, BeginPage, Centre, ChangeTrap, DiversionTrap, Divert, Environment, Fill, Indent, InputTrap, LineLength, LineSpacing, Need, NoAdjust, NoFill, NoSpace, NumberRegister, PageLength, PageNumber, PageOffset, PlantTrap, RemoveNames, Rename, RestoreSpacing, Space as SpaceDown, TabStops, TemporaryIndent, LeftOut, Title as TitleRequest, TitleLength}
use Rattle.run_model.proofs.MeantEvents.{MayBe}
use Rattle.run_model.proofs.OneMessage.{IsNamed, TellsOne}

-- an event is meant, and opens no diversion
abbrev pub IsPlain : PageEvent → Type 0
IsPlain (Page (DivertEvent name appends)) = ⊥
IsPlain e = MayBe false e

-- each of these is, and there are so many at the most
abbrev pub FewPlain : ℕ → List PageEvent → Type 0
FewPlain n [] = Unit {0}
FewPlain zero (e ∷ events) = ⊥
FewPlain (suc n) (e ∷ events) = IsPlain e × FewPlain n events

-- calls on what names stand for leave the texts in the making
abbrev pub LeaveTexts : List Call → Type 0
LeaveTexts [] = Unit {0}
LeaveTexts (Set name entry ∷ calls) = LeaveTexts calls
LeaveTexts (Append name bytes ∷ calls) = LeaveTexts calls
LeaveTexts (Remove name ∷ calls) = LeaveTexts calls
LeaveTexts (RenameCall from to ∷ calls) = LeaveTexts calls
LeaveTexts (_) = ⊥

-- what may be answered with a break, or without one
abbrev pub Does : Response → Type 0
Does (Ignored messages) = TellsOne messages
Does (Obeyed messages changes calls events) = TellsOne messages × LeaveTexts calls × FewPlain 3 events
Does (Around before behind) = IsPlain before × IsPlain behind

-- What may be answered, where the row has a break or has none. A request that says its name says one thing at the most if that is short.
pub data Answers (is_named : Type 0) : Bool → Response → Type 0 where
  -- what any request may answer
  Answered : {breaks : Bool} (r : Response) → Does r → Answers is_named breaks r
  -- it is ignored, and says its name
  SaysName : {breaks : Bool} (messages : List Message) → (is_named → TellsOne messages) → Answers is_named breaks (Ignored messages)
  -- a diversion is opened
  Opened : (name : ShortName) (appends : Bool) → Answers is_named false (happens [] (Page (DivertEvent name appends) ∷ []))
  -- tab stops are set
  StopsSet : (stops : List (ℤ × StopKind)) → Answers is_named false (happens [] (Text (SetParam NoStops) ∷ map stop_set stops))

does-if : (b : Bool) (r s : Response) → Does r → Does s → Does (if b then r else s)
does-if true r s first second = first
does-if false r s first second = second

-- parameters
does-length : (parameter : ℕ → Param) (wanted : Result ℕ NumFault) → Does (setting_length parameter wanted)
does-length parameter (Ok columns) = (tt, tt, (tt, tt))
does-length parameter (Err fault) = tt

does-temporary_indent : (k : Known) (as_given : List (List ℕ)) → Does (temporary_indent k as_given)
does-temporary_indent k [] = tt
does-temporary_indent k (text ∷ others) = does-length _ (length_set k.settings.indent text)

does-adjusting : (mode : Option AdjustMode) → Does (adjusting_in mode)
does-adjusting None = (tt, tt, (tt, tt))
does-adjusting (Some mode) = (tt, tt, (tt, (tt, tt)))

does-centring : (count : Result ℤ NumFault) → Does (centring count)
does-centring (Ok count) = (tt, tt, (tt, tt))
does-centring (Err fault) = tt

does-centre : (as_given : List (List ℕ)) → Does (centre as_given)
does-centre [] = (tt, tt, (tt, tt))
does-centre (text ∷ others) = does-centring _

does-spacing : (lines : Result ℤ NumFault) → Does (spacing lines)
does-spacing (Ok lines) = (tt, tt, (tt, tt))
does-spacing (Err fault) = tt

does-line_spacing : (k : Known) (as_given : List (List ℕ)) → Does (line_spacing k as_given)
does-line_spacing k [] = (tt, tt, (tt, tt))
does-line_spacing k (text ∷ others) = does-spacing _

answers-stops : {is_named : Type 0} (stops : Result (List (ℤ × StopKind)) NumFault) → Answers is_named false (setting_stops stops)
answers-stops (Ok stops) = StopsSet stops
answers-stops (Err fault) = Answered _ tt

-- space, and lines that are needed
does-spaced : (height : Result ℤ NumFault) → Does (spaced height)
does-spaced (Ok (pos height)) = (tt, tt, (tt, tt))
does-spaced (Ok (negsuc height)) = (tt, tt, (tt, tt))
does-spaced (Err fault) = tt

does-space_down : (k : Known) (as_given : List (List ℕ)) → Does (space_down k as_given)
does-space_down k [] = (tt, tt, (tt, tt))
does-space_down k (text ∷ others) = does-spaced _

does-needed : (height : Result ℤ NumFault) → Does (needed height)
does-needed (Ok height) = (tt, tt, (tt, tt))
does-needed (Err fault) = tt

does-need : (k : Known) (as_given : List (List ℕ)) → Does (need k as_given)
does-need k [] = (tt, tt, (tt, tt))
does-need k (text ∷ others) = does-needed _

-- a page that is ejected was begun, or it is the first one
some_page : (L : Layout) → 0 < page_ejected L
some_page L = omega arith

does-ejected : (L : Layout) → Does (ejected L)
does-ejected L = does-if (is_diverting L) nothing (happens [] (Page (Eject (page_ejected L)) ∷ [])) (tt, tt, tt) (tt, tt, (some_page L, tt))

does-ejected_to : (n : Num) (L : Layout) → Does (ejected_to n L)
does-ejected_to n L =
    let alone : Response = happens [] (Page (EjectTo (page_ejected L) n) ∷ []) in
    let around : Response = Around (Page (Next n)) (Page (EjectTo (page_ejected L) n)) in
    does-if (is_diverting L) nothing (if L.begun == 0 then alone else around) (tt, tt, tt)
    (does-if (L.begun == 0) alone around (tt, tt, (some_page L, tt)) (tt, some_page L))

does-ejected_by : (L : Layout) (number : Result ℤ NumFault) → Does (ejected_by L number)
does-ejected_by L (Ok n) = does-ejected_to (number n) L
does-ejected_by L (Err fault) = tt

does-begin_page : (k : Known) (as_given : List (List ℕ)) → Does (begin_page k as_given)
does-begin_page k [] = does-ejected k.layout
does-begin_page k (text ∷ others) = does-ejected_by k.layout (page_asked k text)

-- the page length
does-lines_on_page : (lines : ℕ) → Does (lines_on_page lines)
does-lines_on_page zero = tt
does-lines_on_page (suc n) =
    does-if (suc n == 0) (Ignored (PageTooShort ∷ [])) (happens [] (Page (Length (suc n)) ∷ [])) tt (tt, tt, (omega arith, tt))

does-page_of : (lines : Result ℕ NumFault) → Does (page_of lines)
does-page_of (Ok lines) = does-lines_on_page lines
does-page_of (Err fault) = tt

does-page_length : (k : Known) (as_given : List (List ℕ)) → Does (page_length k as_given)
does-page_length k [] = does-lines_on_page 66
does-page_length k (text ∷ others) = does-page_of (lines_set k text)

-- the page offset, and the next page's number
does-offset_to : (columns : Result ℕ NumFault) → Does (offset_to columns)
does-offset_to (Ok columns) = (tt, tt, (tt, tt))
does-offset_to (Err fault) = tt

does-next_numbered : (number : Result ℤ NumFault) → Does (next_numbered number)
does-next_numbered (Ok n) = (tt, tt, (tt, tt))
does-next_numbered (Err fault) = tt

does-page_number : (k : Known) (as_given : List (List ℕ)) → Does (page_number k as_given)
does-page_number k [] = tt
does-page_number k (text ∷ others) = does-next_numbered (page_asked k text)

-- traps of pages
does-planted : (name : Option ShortName) (place : Result ℤ NumFault) → Does (planted name place)
does-planted (Some name) (Ok place) = (tt, tt, (tt, tt))
does-planted None (Ok place) = (tt, tt, (tt, tt))
does-planted (_) (Err fault) = tt

does-plant_trap : (k : Known) (as_given : List (List ℕ)) → Does (plant_trap k as_given)
does-plant_trap k [] = tt
does-plant_trap k (text ∷ others) = does-planted (name_or_none (name_at 1 (text ∷ others))) (place_given k text)

does-moved : (name : ShortName) (place : Result ℤ NumFault) → Does (moved name place)
does-moved name (Ok place) = (tt, tt, (tt, tt))
does-moved name (Err fault) = tt

does-moved_if_named : (k : Known) (name : Option ShortName) (others : List (List ℕ)) → Does (moved_if_named k name others)
does-moved_if_named k None others = tt
does-moved_if_named k (Some name) [] = (tt, tt, (tt, tt))
does-moved_if_named k (Some name) (text ∷ others) = does-moved name (place_given k text)

does-change_trap : (k : Known) (as_given : List (List ℕ)) → Does (change_trap k as_given)
does-change_trap k [] = tt
does-change_trap k (name ∷ others) = does-moved_if_named k (name_or_none (name_at 0 (name ∷ others))) others

-- diversions
answers-diverted : {is_named : Type 0} (appends : Bool) (name : Option ShortName) → Answers is_named false (diverted appends name)
answers-diverted appends (Some name) = Opened name appends
answers-diverted appends None = Answered _ (tt, tt, (tt, tt))

does-diversion_trapped : (name : Option ShortName) (place : Result ℤ NumFault) → Does (diversion_trapped name place)
does-diversion_trapped (Some name) (Ok place) = (tt, tt, (tt, tt))
does-diversion_trapped None (Ok place) = (tt, tt, (tt, tt))
does-diversion_trapped (_) (Err fault) = tt

does-diversion_trap : (k : Known) (as_given : List (List ℕ)) → Does (diversion_trap k as_given)
does-diversion_trap k [] = (tt, tt, (tt, tt))
does-diversion_trap k (text ∷ others) = does-diversion_trapped (name_or_none (name_at 1 (text ∷ others))) (place_given k text)

-- environments
does-switching_to : (number : Option EnvironmentNumber) → Does (switching_to number)
does-switching_to None = tt
does-switching_to (Some environment) = (tt, tt, (tt, tt))

does-switching_by : (number : Result ℤ NumFault) → Does (switching_by number)
does-switching_by (Ok (pos n)) = does-switching_to (environment_numbered n)
does-switching_by (Ok (negsuc n)) = tt
does-switching_by (Err fault) = tt

does-switch : (k : Known) (as_given : List (List ℕ)) → Does (switch k as_given)
does-switch k [] = does-if k.has_left _ _ (tt, tt, (tt, tt)) tt
does-switch k (text ∷ others) = does-switching_by (value_in Units text)

-- the input-line trap
does-trap_set : (name : Option ShortName) (lines : Result ℤ NumFault) → Does (trap_set name lines)
does-trap_set name (Ok lines) = (tt, tt, (tt, tt))
does-trap_set name (Err fault) = tt

does-input_trap : (as_given : List (List ℕ)) → Does (input_trap as_given)
does-input_trap [] = (tt, tt, (tt, tt))
does-input_trap (text ∷ others) = does-trap_set _ _

-- registers and names
does-named : (text : List ℕ) (r : Response) → Does r → Does (if_named text r)
does-named text r done = does-if (length text == 0) (Ignored []) r tt done

few-numbered : (n : Option Num) → FewPlain 3 (page_numbered n)
few-numbered None = tt
few-numbered (Some n) = (tt, tt)

does-set_to : (name : List ℕ) (value increment : Result ℤ NumFault) → Does (set_to name value increment)
does-set_to name (Err fault) increment = tt
does-set_to name (Ok value) (Err fault) = tt
does-set_to name (Ok value) (Ok increment) = (tt, tt, few-numbered (number_of_page name (number value)))

does-set_register : (k : Known) (as_given : List (List ℕ)) → Does (set_register k as_given)
does-set_register k [] = tt
does-set_register k (name ∷ []) = tt
does-set_register k (name ∷ value ∷ others) =
    does-named name _
    (does-set_to (name_given name) (value_beside (value_in_force k (name_given name)).0 Units value) (increment_given others))

does-format_as : (name : List ℕ) (format : Option Format) → Does (format_as name format)
does-format_as name None = tt
does-format_as name (Some format) = (tt, tt, tt)

does-assign_format : (as_given : List (List ℕ)) → Does (assign_format as_given)
does-assign_format [] = tt
does-assign_format (name ∷ []) = tt
does-assign_format (name ∷ format ∷ others) = does-named name _ (does-format_as _ _)

does-rename : (as_given : List (List ℕ)) → Does (rename as_given)
does-rename [] = tt
does-rename (from ∷ []) = tt
does-rename (from ∷ to ∷ others) = does-named from _ (does-named to _ (tt, tt, tt))

leave-removals : (names : List (List ℕ)) → LeaveTexts (removals names)
leave-removals [] = tt
leave-removals (name ∷ names) = leave-removals names

-- a request, by what its row has it do
pub answers : (k : Known) (request : Request) (as_given : List (List ℕ))
    → Answers (IsNamed request) (row_of request).breaks ((row_of request).does k as_given)
answers k Adjust as_given = Answered _ (does-adjusting (mode_wanted as_given))
answers k AssignFormat as_given = Answered _ (does-assign_format as_given)
answers k AppendDiversion as_given = answers-diverted true (name_or_none (name_at 0 as_given))
answers k BeginPage as_given = Answered _ (does-begin_page k as_given)
answers k Centre as_given = Answered _ (does-centre as_given)
answers k ChangeTrap as_given = Answered _ (does-change_trap k as_given)
answers k Divert as_given = answers-diverted false (name_or_none (name_at 0 as_given))
answers k DiversionTrap as_given = Answered _ (does-diversion_trap k as_given)
answers k Environment as_given = Answered _ (does-switch k as_given)
answers k Fill as_given = Answered _ (tt, tt, (tt, tt))
answers k Indent as_given = let s = k.settings in Answered _ (does-length _ (length_wanted s.indent s.previous_indent as_given))
answers k InputTrap as_given = Answered _ (does-input_trap as_given)
answers k LineLength as_given =
    let s = k.settings in Answered _ (does-length _ (length_wanted s.line_length s.previous_line_length as_given))
answers k LineSpacing as_given = Answered _ (does-line_spacing k as_given)
answers k TitleLength as_given =
    let s = k.settings in Answered _ (does-length _ (length_wanted s.title_length s.previous_title_length as_given))
answers k NoAdjust as_given = Answered _ (tt, tt, (tt, tt))
answers k Need as_given = Answered _ (does-need k as_given)
answers k NoFill as_given = Answered _ (tt, tt, (tt, tt))
answers k NoSpace as_given = Answered _ (tt, tt, (tt, tt))
answers k NumberRegister as_given = Answered _ (does-set_register k as_given)
answers k PageLength as_given = Answered _ (does-page_length k as_given)
answers k PageNumber as_given = Answered _ (does-page_number k as_given)
answers k PageOffset as_given = Answered _ (does-offset_to (length_wanted k.layout.offset k.layout.previous_offset as_given))
answers k PlantTrap as_given = Answered _ (does-plant_trap k as_given)
answers k RemoveNames as_given = Answered _ (tt, leave-removals (names_given as_given), tt)
answers k Rename as_given = Answered _ (does-rename as_given)
answers k RestoreSpacing as_given = Answered _ (tt, tt, (tt, tt))
answers k SpaceDown as_given = Answered _ (does-space_down k as_given)
answers k TabStops as_given = answers-stops (stop_places (pos 0) (take most_stops as_given))
answers k TemporaryIndent as_given = Answered _ (does-temporary_indent k as_given)
answers k TitleRequest as_given = Answered _ (tt, tt, (tt, tt))
answers k (LeftOut name) as_given = SaysName _ (λ named. named)
answers k (_) as_given = Answered _ (tt, tt, tt)
