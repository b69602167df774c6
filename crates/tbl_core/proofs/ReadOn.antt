-- Bytes of a line of the data are read on, one after another.
use Rattle.std.proofs.Common.{List, [], ◌∷◌, ◌++◌, Option, None, Some, length, map, take as take_front, refl, sym, ap, ◌∙◌, subst, arith, append_assoc, length-append, length-take, ◌≡◌, ◌==◌, ◌&&◌, ℕ, ◌+◌, ◌-◌, ◌*◌, ◌≤◌, ◌<◌, zero, suc, nat_le, nat_lt, Bool, true, false, not, if◌then◌else◌}
use Rattle.std.specs.List.{take_while}
use Rattle.std.proofs.lemmas.Bool.Decides.{nat_tests}
use Rattle.input_source.proofs.PlainBytes.{take_while-plain}
use Rattle.roff_num.specs.declared.limit.Limit.{Limit}
use Rattle.roff_num.specs.declared.limit.Limit.TheVariants.{Rows, Columns, Text, TblBytes}
use Rattle.input_source.specs.Bytes.{newline}
use Rattle.input_source.specs.Tape.{Item, OneByte, Ending, Tape, Took, items_then}
use Rattle.tbl_format.specs.declared.limits.TblLimits.{TblLimits}
use Rattle.tbl_core.specs.declared.place.Count.{Count}
use Rattle.tbl_core.specs.declared.place.Front.TheVariants.{Nothing, Other}
use Rattle.tbl_core.specs.declared.place.Position.{Position}
use Rattle.tbl_core.specs.declared.place.Position.TheVariants.{Inside as AtInside}
use Rattle.tbl_core.specs.Lines.{counted, is_of_name, line_counted, next_line}
use Rattle.tbl_core.specs.Machine.{Now, Inside, Standing, Reads, Step, goes_on_inside, limit_inside, stops, take, take_at, told_so_far}
use Rattle.tbl_core.specs.NotesLeft.{bytes_left, most_behind, noted, notes_left}
use Rattle.tbl_core.specs.Passing.{IsWithinLine, is_of_line}
use Rattle.tbl_core.specs.ReadOn.{HasRoom, ReadsLine, line_read}
use Rattle.tbl_core.specs.Stages.{TakesOn, answered_by}
use Rattle.tbl_core.specs.Tables.{TablesState, standing_of, stopped_by}
use Rattle.tbl_core.specs.Yields.{At, Continues, MayGive, yields_from}
use Rattle.tbl_core.proofs.Ready.{line-few}
use Rattle.tbl_core.proofs.Turning.{at_of}
use Rattle.tbl_table.specs.Reading.{Reading, byte_read, bytes_read, line_ended}
use Rattle.tbl_table.specs.MayTell.{may_cut, may_tell}
use Rattle.tbl_table.specs.Table.{columns_at}
use Rattle.tbl_data.specs.declared.phase.Phase.TheVariants.{InData}
use Rattle.tbl_table.proofs.RowsBehind.{columns-in}

-- a byte that isn't a newline
not_newline : (t : Bool) → not t ≡ true → t ≡ false
not_newline true within = cc
not_newline false within = refl

-- on a line of a table that can't be its end
abbrev inside_now : Count → Reading → Now
inside_now count r = record { count = count; place = Inside Other r }

-- there is no limit to meet within a line that has few columns and few bytes
none_met : (t a c d : Bool) → t ≡ false → c ≡ false → d ≡ false
    → (if t && a then Some Rows else if c then Some Columns else if not (is_of_name (if t then Nothing else Other)) && d then Some Text else None) ≡ None
none_met true a c d line columns text = cc
none_met false a true d line columns text = cc
none_met false a false true line columns text = cc
none_met false a false false line columns text = refl

module _ (l : TblLimits) (line_length : ℕ) where
  no_limit : (b taken : ℕ) (r : Reading) (n : ℕ) → HasRoom l taken r n → (b == newline) ≡ false → limit_inside l b Other r ≡ None
  no_limit b taken r n room within =
      let same = columns-in r.table (r.line ++ b ∷ []) InData room.phase in
      let few_columns : nat_lt l.columns (columns_at r.table (r.line ++ b ∷ [])) ≡ false = grind (arith, nat_tests, same, room.columns) in
      let few_bytes : nat_lt l.text (length (bytes_read r) + 1) ≡ false = grind (arith, nat_tests, room.text, room.some) in
      none_met (b == newline) _ _ _ within few_columns few_bytes

  -- a byte is read on
  line_step : (b : ℕ) (count : Count) (r : Reading) (n : ℕ) → HasRoom l count.taken r n → (b == newline) ≡ false
      → take l line_length b (inside_now count r) ≡ record { out = []; behind = Reads (inside_now (counted b count) (byte_read b r)) }
  line_step b count r n room within =
      let more : nat_le l.bytes count.taken ≡ false = grind (arith, nat_tests, room.bytes, room.some) in
      let one = counted b count in
      let on : Bool → Step = λ t. record {
        out = [];
        behind = Reads (record { count = one; place = Inside (if t then Nothing else Other) (if t then line_ended one.line r else byte_read b r) });
      } in
      ap (λ (t : Bool). if t then stops l TblBytes count.line (told_so_far (Inside Other r)) else take_at l line_length b one (Inside Other r)) more
      ∙ ap (λ (o : Option Limit). goes_on_inside o l b one Other r) (no_limit b count.taken r n room within)
      ∙ ap on within

  -- so are all of them, for whatever takes a byte that gives nothing as such
  module _ {X : Type 0} (f : Standing → List Item → X)
      (one : (b : ℕ) (now behind : Now) (items : List Item) → take l line_length b now ≡ record { out = []; behind = Reads behind }
      → f (Reads now) (OneByte b ∷ items) ≡ f (Reads behind) items) where
    read_over : (bytes : List ℕ) (count : Count) (r : Reading) (items : List Item) → IsWithinLine bytes → HasRoom l count.taken r (length bytes)
        → f (Reads (inside_now count r)) (map OneByte bytes ++ items) ≡ f (line_read bytes (Reads (inside_now count r))) items
    read_over [] count r items within room = absurd (omega (arith, room.some))
    read_over (b ∷ []) count r items within room =
        let here = not_newline (b == newline) within.0 in
        let behind : Bool → Now = λ t.
        record { count = record { taken = count.taken + 1; line = next_line count; ended = t }; place = Inside Other (byte_read b r) } in
        one b (inside_now count r) (inside_now (counted b count) (byte_read b r)) items (line_step b count r 1 room here)
        ∙ ap (λ (t : Bool). f (Reads (behind t)) items) here
    read_over (b ∷ c ∷ bytes) count r items within room =
        let here = not_newline (b == newline) within.0 in
        let more = c ∷ bytes in
        let first = counted b count in
        let room_behind : HasRoom l first.taken (byte_read b r) (length more) = record {
          some = omega arith;
          bytes = omega (arith, room.bytes);
          phase = room.phase;
          columns = room.columns;
          text = omega (arith, room.text, length-append r.read (r.line ++ b ∷ []), length-append r.read r.line, length-append r.line (b ∷ []));
        } in
        let line : Bool → ℕ = λ t. if t then next_line count + 1 else next_line count in
        let counts : line_counted (length more) first ≡ line_counted (length (b ∷ more)) count =
        ap (λ (n : ℕ). record { taken = n; line = next_line first; ended = false }) (omega arith)
        ∙ ap (λ (t : Bool). record { taken = count.taken + length (b ∷ more); line = line t; ended = false }) here in
        let behind : Count → List ℕ → Now = λ n text. record { count = n; place = Inside Other (record r { line = text }) } in
        one b (inside_now count r) (inside_now first (byte_read b r)) (map OneByte more ++ items) (line_step b count r (length (b ∷ more)) room here)
        ∙ read_over (c ∷ bytes) first (byte_read b r) items within.1 room_behind
        ∙ ap (λ (n : Count). f (Reads (behind n ((r.line ++ b ∷ []) ++ more))) items) counts
        ∙ ap (λ (text : List ℕ). f (Reads (behind (line_counted (length (b ∷ more)) count) text)) items) (append_assoc r.line (b ∷ []) more)

  line_yields : (e : Ending) (bytes : List ℕ) (count : Count) (r : Reading) (items : List Item) → IsWithinLine bytes → HasRoom l count.taken r (length bytes)
      → yields_from l line_length (Reads (inside_now count r)) (map OneByte bytes ++ items) e
      ≡ yields_from l line_length (line_read bytes (Reads (inside_now count r))) items e
  line_yields e =
      read_over (λ (s : Standing) (items : List Item). yields_from l line_length s items e)
      (λ b now behind items is. ap (λ (s : Step). items_then s.out (yields_from l line_length s.behind items e)) is)

  line_answered : (e : Ending) (bytes : List ℕ) (count : Count) (r : Reading) (items : List Item) → IsWithinLine bytes → HasRoom l count.taken r (length bytes)
      → answered_by l line_length (Reads (inside_now count r)) [] (map OneByte bytes ++ items) e
      ≡ answered_by l line_length (line_read bytes (Reads (inside_now count r))) [] items e
  line_answered e =
      read_over (λ (s : Standing) (items : List Item). answered_by l line_length s [] items e)
      (λ b now behind items is. ap (λ (s : Step). answered_by l line_length s.behind s.out items e) is)

  -- nothing is given for them
  line_silent : (count : Count) (r : Reading) (bytes : List ℕ) (old new : Tape → Type 0) → IsWithinLine bytes → HasRoom l count.taken r (length bytes)
      → Took old new (map OneByte bytes)
      → Continues (MayGive l line_length (record { pending = []; standing = Reads (inside_now count r) }) old)
      (MayGive l line_length (record { pending = []; standing = line_read bytes (Reads (inside_now count r)) }) new)
  line_silent count r bytes old new within room took = λ t gives. record {
    under = items_then (map OneByte bytes) gives.under;
    given = took.before gives.under gives.given;
    is = gives.is
        ∙ ap (items_then []) (sym (line_yields gives.under.ending bytes count r gives.under.items within room));
  }

  line_taken : (count : Count) (r : Reading) (bytes : List ℕ) (old new : Tape → Type 0) → IsWithinLine bytes → HasRoom l count.taken r (length bytes)
      → Took old new (map OneByte bytes)
      → TakesOn old new l line_length (record { pending = []; standing = Reads (inside_now count r) })
      (record { pending = []; standing = line_read bytes (Reads (inside_now count r)) })
  line_taken count r bytes old new within room took = record {
    taken = map OneByte bytes;
    earlier = took.before;
    is = λ left given. line_answered left.ending bytes count r left.items within room;
  }

  -- the same wherever the run stands
  standing_silent : (pending : List Item) (s : Standing) (bytes : List ℕ) (old new : Tape → Type 0) → pending ≡ [] → ReadsLine l s bytes
      → Took old new (map OneByte bytes)
      → Continues (MayGive l line_length (record { pending = pending; standing = s }) old)
      (MayGive l line_length (record { pending = []; standing = line_read bytes s }) new)
  standing_silent pending s bytes old new none known took =
      rw (none, known.is) (line_silent known.count known.reading bytes old new known.line known.room took)

  standing_taken : (pending : List Item) (s : Standing) (bytes : List ℕ) (old new : Tape → Type 0) → pending ≡ [] → ReadsLine l s bytes
      → Took old new (map OneByte bytes)
      → TakesOn old new l line_length (record { pending = pending; standing = s }) (record { pending = []; standing = line_read bytes s })
  standing_taken pending s bytes old new none known took =
      rw (none, known.is) (line_taken known.count known.reading bytes old new known.line known.room took)

  -- fewer bytes may be taken then
  line_fewer : (s : Standing) (bytes : List ℕ) → ReadsLine l s bytes → bytes_left l (line_read bytes s) < bytes_left l s
  line_fewer s bytes known =
      let before : bytes_left l s ≡ l.bytes - known.count.taken = ap (bytes_left l) known.is in
      let behind : bytes_left l (line_read bytes s) ≡ l.bytes - (known.count.taken + length bytes) =
      ap (λ (x : Standing). bytes_left l (line_read bytes x)) known.is in
      omega (arith, before, behind, known.room.bytes, known.room.some)

  -- and no more messages may come
  line_few : (s : Standing) (bytes : List ℕ) → ReadsLine l s bytes → most_behind l (line_read bytes s) ≤ most_behind l s
  line_few s bytes known =
      let r = known.reading in
      let told = may_tell r.table in
      let cut = may_cut r.table in
      let before : most_behind l s ≡ 5 * (l.bytes - known.count.taken) + (told + cut + 2 * length r.line + 4) + 1 = ap (most_behind l) known.is in
      let behind : most_behind l (line_read bytes s) ≡ 5 * (l.bytes - (known.count.taken + length bytes)) + (told + cut + 2 * length (r.line ++ bytes) + 4) + 1 =
      ap (λ (x : Standing). most_behind l (line_read bytes x)) known.is in
      omega (arith, before, behind, known.room.bytes, length-append r.line bytes)

-- the run reads on
pub line_reads : (l : TblLimits) (s : Standing) (bytes : List ℕ) → ReadsLine l s bytes → stopped_by (line_read bytes s) ≡ None
line_reads l s bytes known = ap (λ (x : Standing). stopped_by (line_read bytes x)) known.is

-- of whole states
module _ (old new : TablesState) (bytes : List ℕ) (known : ReadsLine old.limits old.at.standing bytes) (none : old.at.pending ≡ []) (still : new.at.pending ≡ [])
    (behind : new.at.standing ≡ line_read bytes old.at.standing) (limits : new.limits ≡ old.limits) where
  here : new.at ≡ record { pending = []; standing = line_read bytes old.at.standing }
  here = at_of new.at [] (line_read bytes old.at.standing) still behind

  pub line_goes_on : (line_length : new.line_length ≡ old.line_length) (inner left : Tape → Type 0) → Took inner left (map OneByte bytes)
      → Continues (MayGive old.limits old.line_length old.at inner) (MayGive new.limits new.line_length new.at left)
  line_goes_on line_length inner left took =
      rw (limits, line_length)
      (subst (λ (at : At). Continues (MayGive old.limits old.line_length old.at inner) (MayGive old.limits old.line_length at left)) (sym here)
      (standing_silent old.limits old.line_length old.at.pending old.at.standing bytes inner left none known took))

  pub line_takes : (inner left : Tape → Type 0) → Took inner left (map OneByte bytes) → TakesOn inner left old.limits old.line_length old.at new.at
  line_takes inner left took =
      subst (λ (at : At). TakesOn inner left old.limits old.line_length old.at at) (sym here)
      (standing_taken old.limits old.line_length old.at.pending old.at.standing bytes inner left none known took)

  pub few_behind_line : notes_left new ≤ notes_left old
  few_behind_line =
      let items : noted new.at.pending ≡ 0 = ap noted still in
      let most : most_behind new.limits new.at.standing ≡ most_behind old.limits (line_read bytes old.at.standing) = rw (limits, behind) refl in
      let few = line_few old.limits old.line_length old.at.standing bytes known in
      omega (arith, items, most, few)

  pub fewer_behind_line : bytes_left new.limits new.at.standing < bytes_left old.limits old.at.standing
  fewer_behind_line =
      let left : bytes_left new.limits new.at.standing ≡ bytes_left old.limits (line_read bytes old.at.standing) = rw (limits, behind) refl in
      let fewer = line_fewer old.limits old.line_length old.at.standing bytes known in
      omega (arith, left, fewer)

  pub line_reads_on : stopped_by new.at.standing ≡ None
  line_reads_on = ap stopped_by behind ∙ line_reads old.limits old.at.standing bytes known

-- the next bytes that are within the line, as many as there is room for, are read on
pub reads_line : (l : TblLimits) (count : Count) (position : Position) (r : Reading) (bytes line : List ℕ) (most : ℕ)
    → position ≡ AtInside Other → ((n : ℕ) → 1 ≤ n → n ≤ most → HasRoom l count.taken r n)
    → line ≡ take_while is_of_line (take_front most bytes) → 1 ≤ length line → ReadsLine l (standing_of count position r) line
reads_line l count position r bytes line most is room line_is some =
    let few = line-few most bytes in
    let all = length-take most bytes in
    let len = ap (λ (xs : List ℕ). length xs) line_is in
    record {
      count = count;
      reading = r;
      is = ap (λ (p : Position). standing_of count p r) is;
      line = subst IsWithinLine (sym line_is) (take_while-plain is_of_line (take_front most bytes));
      room = room (length line) some (omega (arith, few, all, len));
    }

pub some_bytes : (n : ℕ) → (n ≡ 0 → ⊥) → 1 ≤ n
some_bytes zero none = absurd (none refl)
some_bytes (suc n) none = omega arith
