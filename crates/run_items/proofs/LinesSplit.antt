-- A line that was taken up to its newline, and that newline: the bytes before it, and then the newline alone.
use Rattle.std.proofs.Common.{◌≡◌, ◌==◌, ℕ, ◌+◌, ◌≤◌, Bool, false, List, [], ◌∷◌, ◌++◌, length, map, refl, sym, ap, subst, ◌∙◌, arith, if◌then◌else◌, le-ltb, length-append}
use Rattle.input_model.specs.Input.{Ahead, ByteAhead, bytes_taken, counting, item_taken, lines_taken}
use Rattle.input_model.specs.Shown.{ShowsByte, ShowsRefusal}
use Rattle.input_model.specs.Unread.{IsWithin}
use Rattle.input_model.specs.declared.looked.Looked.{Looked}
use Rattle.input_model.specs.declared.looked.Looked.TheVariants.{Byte, Nothing}
use Rattle.roff_num.specs.declared.limit.Limit.TheVariants.{Bytes}
use Rattle.input_source.specs.Bytes.{newline}
use Rattle.input_source.specs.Tape.{Answer, Gives, Item, OneByte, Tape, items_then}
use Rattle.roff_scan.proofs.Fronts.{behind_line}
use Rattle.roff_scan.proofs.PassingAhead.{IsWithin-behind, behind_bytes, bytes_taken-is}
use Rattle.roff_scan.specs.Unread.Calls.{NoNewline, OfSource, OfTexts, PassesFront, Takes}
use Rattle.run_model.specs.PageEvents.{PageEvent}
use Rattle.run_model.specs.Reading.Items.{PageInput, PageUnread}

-- the items of bytes, and of one more behind them
items-last : (A : Type 0) (f : ℕ → A) (bytes : List ℕ) (last : ℕ) (behind : List A) → map f (bytes ++ last ∷ []) ++ behind ≡ map f bytes ++ f last ∷ behind
items-last A f [] last behind = refl
items-last A f (b ∷ bytes) last behind = ap (λ (others : List A). f b ∷ others) (items-last A f bytes last behind)

-- bytes are taken one after another
lines-last : (bytes : List ℕ) (last : ℕ) (i : PageInput) → lines_taken (bytes ++ last ∷ []) i ≡ counting last (lines_taken bytes i)
lines-last [] last i = refl
lines-last (b ∷ bytes) last i = lines-last bytes last (counting b i)

module _ (gave gives : Tape → Type 0) (bytes : List ℕ) (before after : PageUnread) where
  -- what the source may give in front of the newline, and what is unread there
  abbrev pub mid : PassesFront gave gives (bytes ++ newline ∷ []) before after → Tape → Type 0
  mid (OfSource passes) = λ t. (rest : Tape) × (gives rest × (t ≡ items_then (OneByte newline ∷ []) rest))
  mid (OfTexts passes) = gives

  abbrev pub between : PassesFront gave gives (bytes ++ newline ∷ []) before after → PageUnread
  between (OfSource passes) = record before { input = lines_taken bytes before.input }
  between (OfTexts passes) = record before { input = bytes_taken bytes (ByteAhead newline ∷ passes.behind) before.input }

  -- the bytes before it were taken
  pub passes-bytes : (all : PassesFront gave gives (bytes ++ newline ∷ []) before after) → PassesFront gave (mid all) bytes before (between all)
  passes-bytes (OfSource passes) = OfSource (record {
    ahead = passes.ahead;
    looked = passes.looked;
    in_front = λ t given.
        let one = passes.in_front given.0 given.1.0 in
        subst gave
        (ap (λ (items : List Item). let t : Tape = record { items = items; ending = given.0.ending } in t) (items-last Item OneByte bytes newline given.0.items)
        ∙ ap (items_then (map OneByte bytes)) (sym given.1.1)) one;
    some = (items_then (OneByte newline ∷ []) passes.some.0, (passes.some.0, (passes.some.1, refl)));
    input = refl;
    within = (let all = passes.within in omega (arith, all, length-append bytes (newline ∷ [])));
  })
  passes-bytes (OfTexts passes) = OfTexts (record {
    behind = ByteAhead newline ∷ passes.behind;
    in_front = passes.in_front ∙ items-last (Ahead PageEvent) ByteAhead bytes newline passes.behind;
    stays = passes.stays;
    input = refl;
    within = (let all = passes.within in omega (arith, all, length-append bytes (newline ∷ [])));
  })

-- bytes of the source of which none is a newline are counted together
lines_taken-is : (bytes : List ℕ) (i : PageInput) → 1 ≤ length bytes → NoNewline bytes → lines_taken bytes i ≡ behind_line (length bytes) i
lines_taken-is [] i some plain = absurd (omega (arith, some))
lines_taken-is (b ∷ bytes) i some plain = plain_line b bytes i plain
  where
    plain_byte : (b : ℕ) (i : PageInput) → (b == newline) ≡ false → counting b i ≡ record i { charge = i.charge + 1; line = i.newlines + 1 }
    plain_byte b i is = ap (λ (t : Bool). record i { charge = i.charge + 1; newlines = if t then i.newlines + 1 else i.newlines; line = i.newlines + 1 }) is

    plain_line : (b : ℕ) (bytes : List ℕ) (i : PageInput) → NoNewline (b ∷ bytes) → lines_taken (b ∷ bytes) i ≡ behind_line (length (b ∷ bytes)) i
    plain_line b [] i plain = plain_byte b i plain.0
    plain_line b (c ∷ bytes) i plain =
        let same : i.charge + 1 + length (c ∷ bytes) ≡ i.charge + length (b ∷ c ∷ bytes) = omega arith in
        ap (lines_taken (c ∷ bytes)) (plain_byte b i plain.0) ∙ plain_line c bytes (behind_line 1 i) plain.1
        ∙ ap (λ (n : ℕ). record i { charge = n; line = i.newlines + 1 }) same

-- what is ahead doesn't change with bytes of the source
ahead-lines : (bytes : List ℕ) (i : PageInput) → (lines_taken bytes i).ahead ≡ i.ahead
ahead-lines [] i = refl
ahead-lines (b ∷ bytes) i = ahead-lines bytes (counting b i)

charge-lines : (bytes : List ℕ) (i : PageInput) → (lines_taken bytes i).charge ≡ i.charge + length bytes
charge-lines [] i = omega arith
charge-lines (b ∷ bytes) i = let behind = charge-lines bytes (counting b i) in omega (arith, behind)

-- a byte that comes next is taken where the limit allows it: of the source
takes-source : (gave gives : Tape → Type 0) (u after : PageUnread) (b : ℕ) → u.input.ahead ≡ [] → u.looked ≡ Nothing → u.input.charge + 1 ≤ u.limits.bytes
    → after ≡ record u { input = counting b u.input } → ((t : Tape) → gives t → gave (items_then (OneByte b ∷ []) t)) → (t : Tape) × gives t → Takes gave gives u after (ShowsByte b)
takes-source gave gives u after b none unlooked room is in_front some =
    let a : Answer = Gives (OneByte b) in
    let own : Takes gave gives (record u { input = record u.input { ahead = [] }; looked = Nothing }) (record u { input = record (counting b u.input) { ahead = [] }; looked = Nothing }) (ShowsByte b) =
    record {
      answer = a;
      asked = record { before = in_front; final = λ ending wrong. absurd (cc); some = some.0; some_given = some.1 };
      taken = sym (ap (λ (c : Bool).
          if c then (ShowsRefusal Bytes, record u { input = record u.input { ahead = [] }; looked = Byte b })
          else (ShowsByte b, record u { input = record (counting b u.input) { ahead = [] }; looked = Nothing })) (le-ltb u.limits.bytes (u.input.charge + 1) room));
    } in
    let shaped : record u { input = record (counting b u.input) { ahead = [] }; looked = Nothing } ≡ after =
    ap (λ (items : List (Ahead PageEvent)). record u { input = record (counting b u.input) { ahead = items }; looked = Nothing }) (sym none)
    ∙ ap (λ (l : Looked). record u { input = counting b u.input; looked = l }) (sym unlooked) ∙ sym is in
    subst (λ (w : PageUnread). Takes gave gives u w (ShowsByte b)) shaped
    (subst (λ (items : List (Ahead PageEvent)). Takes gave gives (record u { input = record u.input { ahead = items } }) (record u { input = record (counting b u.input) { ahead = [] }; looked = Nothing }) (ShowsByte b)) (sym none)
    (subst (λ (l : Looked). Takes gave gives (record u { input = record u.input { ahead = [] }; looked = l }) (record u { input = record (counting b u.input) { ahead = [] }; looked = Nothing }) (ShowsByte b)) (sym unlooked) own))

-- of those ahead
takes-ahead : (gives : Tape → Type 0) (u after : PageUnread) (b : ℕ) (behind : List (Ahead PageEvent)) → u.input.ahead ≡ ByteAhead b ∷ behind → u.input.charge + 1 ≤ u.limits.bytes
    → after ≡ record u { input = item_taken (ByteAhead b) behind u.input } → Takes gives gives u after (ShowsByte b)
takes-ahead gives u after b behind front room is =
    let there : PageUnread = record u { input = item_taken (ByteAhead b) behind u.input } in
    let own : Takes gives gives (record u { input = record u.input { ahead = ByteAhead b ∷ behind } }) there (ShowsByte b) =
    record {
      answer = Gives (OneByte b);
      asked = record { before = λ t may. may; after = λ t may. may };
      taken = sym (ap (λ (c : Bool). if c then (ShowsRefusal Bytes, record u { input = record u.input { ahead = ByteAhead b ∷ behind } }) else (ShowsByte b, there)) (le-ltb u.limits.bytes (u.input.charge + 1) room));
    } in
    subst (λ (w : PageUnread). Takes gives gives u w (ShowsByte b)) (sym is)
    (subst (λ (items : List (Ahead PageEvent)). Takes gives gives (record u { input = record u.input { ahead = items } }) there (ShowsByte b)) (sym front) own)

module _ (gave gives : Tape → Type 0) (bytes : List ℕ) (before after : PageUnread) where
  -- and then the newline
  pub takes-newline : (all : PassesFront gave gives (bytes ++ newline ∷ []) before after) → Takes (mid gave gives bytes before after all) gives (between gave gives bytes before after all) after (ShowsByte newline)
  takes-newline (OfSource passes) =
      let i : PageInput = before.input in
      let within = passes.within in
      takes-source _ gives (record before { input = lines_taken bytes i }) after newline (ahead-lines bytes i ∙ passes.ahead) passes.looked
      (omega (arith, within, charge-lines bytes i, length-append bytes (newline ∷ []))) (passes.input ∙ ap (λ (j : PageInput). record before { input = j }) (lines-last bytes newline i))
      (λ t given. (t, (given, refl))) passes.some
  takes-newline (OfTexts passes) =
      let i : PageInput = before.input in
      let within = passes.within in
      let front : i.ahead ≡ map ByteAhead bytes ++ ByteAhead newline ∷ passes.behind = passes.in_front ∙ items-last (Ahead PageEvent) ByteAhead bytes newline passes.behind in
      let first : bytes_taken bytes (ByteAhead newline ∷ passes.behind) i ≡ behind_bytes (length bytes) (ByteAhead newline ∷ passes.behind) i = bytes_taken-is bytes (ByteAhead newline ∷ passes.behind) i front in
      let all : bytes_taken (bytes ++ newline ∷ []) passes.behind i ≡ behind_bytes (length (bytes ++ newline ∷ [])) passes.behind i = bytes_taken-is (bytes ++ newline ∷ []) passes.behind i passes.in_front in
      let count : i.charge + length (bytes ++ newline ∷ []) ≡ i.charge + length bytes + 1 = omega (arith, length-append bytes (newline ∷ [])) in
      subst (λ (j : PageInput). Takes gives gives (record before { input = j }) after (ShowsByte newline)) (sym first)
      (takes-ahead gives (record before { input = behind_bytes (length bytes) (ByteAhead newline ∷ passes.behind) i }) after newline passes.behind refl
      (omega (arith, within, length-append bytes (newline ∷ [])))
      (passes.input ∙ ap (λ (j : PageInput). record before { input = j }) all ∙ ap (λ (n : ℕ). record before { input = record i { ahead = passes.behind; charge = n } }) count))

  -- the newline stands on the line of the bytes before it
  pub line-between : (all : PassesFront gave gives (bytes ++ newline ∷ []) before after) → 1 ≤ length bytes → NoNewline bytes
      → (between gave gives bytes before after all).input.line ≡ after.input.line
  line-between (OfSource passes) some plain =
      let i : PageInput = before.input in
      let there = lines_taken-is bytes i some plain in
      ap (λ (j : PageInput). j.line) there
      ∙ sym (ap (λ (u : PageUnread). u.input.line) passes.input ∙ ap (λ (j : PageInput). j.line) (lines-last bytes newline i) ∙ ap (λ (j : PageInput). j.newlines + 1) there)
  line-between (OfTexts passes) some plain =
      let i : PageInput = before.input in
      let front : i.ahead ≡ map ByteAhead bytes ++ ByteAhead newline ∷ passes.behind = passes.in_front ∙ items-last (Ahead PageEvent) ByteAhead bytes newline passes.behind in
      ap (λ (j : PageInput). j.line) (bytes_taken-is bytes (ByteAhead newline ∷ passes.behind) i front)
      ∙ sym (ap (λ (u : PageUnread). u.input.line) passes.input ∙ ap (λ (j : PageInput). j.line) (bytes_taken-is (bytes ++ newline ∷ []) passes.behind i passes.in_front))

  -- no count is above its limit in front of it
  pub within-between : (all : PassesFront gave gives (bytes ++ newline ∷ []) before after) → 1 ≤ length bytes → NoNewline bytes → IsWithin before → IsWithin (between gave gives bytes before after all)
  within-between (OfSource passes) some plain within =
      let i : PageInput = before.input in
      let all = passes.within in
      subst (λ (j : PageInput). IsWithin (record before { input = j })) (sym (lines_taken-is bytes i some plain)) (record {
        charge = omega (arith, all, length-append bytes (newline ∷ []));
        newlines = omega (arith, within.newlines);
        pushed = within.pushed;
        depth = within.depth;
        results = within.results;
        stored = within.stored;
        names = within.names;
        making = within.making;
      })
  within-between (OfTexts passes) some plain within =
      let i : PageInput = before.input in
      let all = passes.within in
      let front : i.ahead ≡ map ByteAhead bytes ++ ByteAhead newline ∷ passes.behind = passes.in_front ∙ items-last (Ahead PageEvent) ByteAhead bytes newline passes.behind in
      subst (λ (j : PageInput). IsWithin (record before { input = j })) (sym (bytes_taken-is bytes (ByteAhead newline ∷ passes.behind) i front))
      (IsWithin-behind bytes (ByteAhead newline ∷ passes.behind) before front (omega (arith, all, length-append bytes (newline ∷ []))) within)
