use Rattle.std.proofs.Common.{◌≡◌, ℕ, ◌+◌, ◌-◌, true, false, List, ◌∷◌, map, sym, ap, ◌∙◌, arith, nat_lt, le-ltb, lt-ltb}
use Rattle.tbl_text.specs.BlockPlaces.{gap_in, parts_at, word_at}
use Rattle.tbl_text.specs.BlockWords.{OneWord, Part}
use Rattle.tbl_text.specs.FittedWords.{further_fitted, word_fitted}
use Rattle.tbl_text.specs.declared.block_parts.BlockPlace.{BlockPlace}
use Rattle.tbl_text.specs.declared.block_parts.Room.{Room}
use Rattle.tbl_text.proofs.CutParts.{left-place, rest-within, within-place, word-cut, word-over, word-whole}
use Rattle.tbl_text.proofs.block_parts.word_within.Goals as goal

pub returns-then-columns-gap-clause-parts : goal.returns-then-columns-gap-clause-parts
returns-then-columns-gap-clause-parts c =
    let room = c.args.room in
    let gap = gap_in room c.args.word in
    let over : nat_lt room.columns gap ≡ true =
    lt-ltb room.columns gap (omega (arith, c.if-columns-gap.true, c.from-columns.ensures, c.gap_in-gap.ensures.value)) in
    word-over c.args.bytes.now c.args.word room (parts_at c.args.bytes.now c.args.behind) over

pub returns-then-columns-end-clause-parts : goal.returns-then-columns-end-clause-parts
returns-then-columns-end-clause-parts c =
    let room = c.args.room in
    let word = c.args.word in
    let gap = gap_in room word in
    let over : nat_lt room.columns gap ≡ false =
    le-ltb room.columns gap (omega (arith, c.if-columns-gap.false, c.from-columns.ensures, c.gap_in-gap.ensures.value)) in
    let wide : nat_lt room.columns (gap + word.width) ≡ true =
    lt-ltb room.columns (gap + word.width) (omega (arith, c.if-columns-end.true, c.from-columns.ensures, c.gap_in-gap.ensures.value)) in
    let left : room.columns - gap ≡ c.from-columns.result - c.gap_in-gap.result = omega (arith, c.from-columns.ensures, c.gap_in-gap.ensures.value) in
    word-cut c.args.bytes.now word room (parts_at c.args.bytes.now c.args.behind) over wide
    ∙ ap (λ (n : ℕ). map OneWord (word_fitted n (word_at c.args.bytes.now word))) left
    ∙ c.cut_part.ensures.parts

pub returns-clause-parts : goal.returns-clause-parts
returns-clause-parts c =
    let bytes = c.args.bytes.now in
    let room = c.args.room in
    let word = c.args.word in
    let gap = gap_in room word in
    let over : nat_lt room.columns gap ≡ false =
    le-ltb room.columns gap (omega (arith, c.if-columns-gap.false, c.from-columns.ensures, c.gap_in-gap.ensures.value)) in
    let wide : nat_lt room.columns (gap + word.width) ≡ false =
    le-ltb room.columns (gap + word.width) (omega (arith, c.if-columns-end.false, c.from-columns.ensures, c.gap_in-gap.ensures.value)) in
    let left : room.columns - (gap + word.width) ≡ c.from-columns.result - (c.gap_in-gap.result + word.width) =
    omega (arith, c.from-columns.ensures, c.gap_in-gap.ensures.value) in
    let first : List Part → List Part = λ parts. OneWord (word_at bytes word) ∷ parts in
    word-whole bytes word room (parts_at bytes c.args.behind) over wide
    ∙ ap (λ (n : ℕ). first (further_fitted n (parts_at bytes c.args.behind))) left
    ∙ ap first (rest-within bytes (c.from-columns.result - (c.gap_in-gap.result + word.width)) c.args.behind c.requires.all)
    ∙ ap (λ (place : BlockPlace). first (parts_at bytes place)) (sym c.within.ensures)

pub returns-clause-on : goal.returns-clause-on
returns-clause-on c = λ left less.
    let rest : Room = record { columns = c.from-columns.result - (c.gap_in-gap.result + c.args.word.width); is_first = false } in
    rw c.within.ensures (record {
      lies = c.requires.lies;
      within = within-place c.args.bytes.now rest c.args.behind c.requires.within;
      less = omega (arith, less, left-place c.args.bytes.now rest c.args.behind);
    })
