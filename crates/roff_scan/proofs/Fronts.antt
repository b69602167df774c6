-- Bytes that stand in front: those of a slice, and what is left of the input behind so many of them.
use Rattle.std.proofs.Common.{◌≡◌, count_by, ℕ, ◌+◌, ◌-◌, ◌==◌, ◌≤◌, Bool, true, false, if◌then◌else◌, List, [], ◌∷◌, ◌++◌, length, map, take, drop, refl, sym, ap, subst, ◌∙◌, arith, length-take-le, take-take}
use Rattle.input_source.specs.Bytes.{newline}
use Rattle.input_model.specs.Input.{Ahead, ByteAhead, Input, counting, is_none_ahead, leading, lines_taken, returns_ahead}
use Rattle.input_source.specs.Tape.{Tape, OneByte, Took}
use Rattle.input_model.specs.Looking.{is_nothing}
use Rattle.input_model.specs.declared.looked.Looked.{Looked}
use Rattle.input_model.specs.declared.looked.Looked.TheVariants.{Nothing, Byte, Closed}
use Rattle.input_model.specs.Unread.{Unread, IsWithin}
use Rattle.roff_scan.specs.Unread.Calls.{IsFront, NoNewline, PassesFront, OfTexts, PassesSource, front_bytes, next_bytes}
use Rattle.input_model.proofs.Counts.{returns_ahead-bytes}
use Rattle.roff_scan.proofs.PassingAhead.{IsWithin-behind, behind_bytes, bytes_taken-is}
use Rattle.input_ahead.proofs.Leading.{Begins, begins, leading-parted}
use Rattle.roff_scan.proofs.Passing.{counted, lines_taken-last}

-- no byte was looked at
pub nothing_looked : (looked : Looked) → is_nothing looked ≡ true → looked ≡ Nothing
nothing_looked Nothing is = refl
nothing_looked (Byte b) is = cc
nothing_looked (Closed kept) is = cc

-- what begins a beginning begins the whole
begins-further : (front given bytes : List ℕ) (most : ℕ) → Begins front given most → given ≡ take (length given) bytes → Begins front bytes most
begins-further front given bytes most front_begins is =
    let given_begins : Begins given bytes (length given) = begins given bytes (length given) is in
    record {
      same = front_begins.same ∙ ap (take (length front)) is ∙ take-take (length front) (length given) bytes front_begins.among;
      among = omega (arith, front_begins.among, given_begins.among);
      few = front_begins.few;
    }

module _ {E : Type 0} where
  -- the bytes ahead come next, where something is ahead
  next-ahead : (items : List (Ahead E)) (looked : Looked) (ready : List ℕ) → is_none_ahead items ≡ false → next_bytes items looked ready ≡ leading items
  next-ahead [] looked ready some = cc
  next-ahead (item ∷ items) looked ready some = refl

  -- those that stand ready do, where nothing is ahead and none was looked at
  pub next-ready : (items : List (Ahead E)) (looked : Looked) (ready : List ℕ) → is_none_ahead items ≡ true → looked ≡ Nothing → next_bytes items looked ready ≡ ready
  next-ready [] Nothing ready none unlooked = refl
  next-ready [] (Byte b) ready none unlooked = cc
  next-ready [] (Closed kept) ready none unlooked = cc
  next-ready (item ∷ items) looked ready none unlooked = cc

  -- where nothing is ahead and bytes come next, none was looked at, and they are those that stand ready
  next-source : (items : List (Ahead E)) (looked : Looked) (ready : List ℕ) (count : ℕ) → is_none_ahead items ≡ true → 1 ≤ count
      → count ≤ length (next_bytes items looked ready) → (items ≡ []) × ((looked ≡ Nothing) × (next_bytes items looked ready ≡ ready))
  next-source [] Nothing ready count none some few = (refl, (refl, refl))
  next-source [] (Byte b) ready count none some few = absurd (omega (arith, some, few))
  next-source [] (Closed kept) ready count none some few = absurd (omega (arith, some, few))
  next-source (item ∷ items) looked ready count none some few = cc

  -- a byte that is no newline is counted
  counting-plain : (b : ℕ) (i : Input E) → (b == newline) ≡ false → counting b i ≡ record i { charge = i.charge + 1; line = i.newlines + 1 }
  counting-plain b i plain =
      ap (λ (t : Bool). record i { charge = i.charge + 1; newlines = if t then i.newlines + 1 else i.newlines; line = i.newlines + 1 }) plain

  -- the input behind so many bytes of the source, of which none is a newline
  abbrev pub behind_line : ℕ → Input E → Input E
  behind_line count i = record i { charge = i.charge + count; line = i.newlines + 1 }

  -- bytes are taken one after another as so many are
  lines_taken-plain : (b : ℕ) (bytes : List ℕ) (i : Input E) → NoNewline (b ∷ bytes) → lines_taken (b ∷ bytes) i ≡ behind_line (length (b ∷ bytes)) i
  lines_taken-plain b [] i plain = counting-plain b i plain.0
  lines_taken-plain b (c ∷ bytes) i plain =
      let same : i.charge + 1 + length (c ∷ bytes) ≡ i.charge + length (b ∷ c ∷ bytes) = omega arith in
      ap (lines_taken (c ∷ bytes)) (counting-plain b i plain.0) ∙ lines_taken-plain c bytes (behind_line 1 i) plain.1
      ∙ ap (λ (n : ℕ). record i { charge = n; line = i.newlines + 1 }) same

  lines_taken-is : (bytes : List ℕ) (count : ℕ) (i : Input E) → length bytes ≡ count → 1 ≤ count → NoNewline bytes → lines_taken bytes i ≡ behind_line count i
  lines_taken-is [] count i is some plain = absurd (omega (arith, is, some))
  lines_taken-is (b ∷ bytes) count i is some plain = lines_taken-plain b bytes i plain ∙ ap (λ (n : ℕ). behind_line n i) is

module _ {E : Type 0} (items : List (Ahead E)) (looked : Looked) (ready front : List ℕ) (most : ℕ) where
  -- bytes of a slice of those ahead begin those that come next
  pub begins-ahead : (given : List ℕ) → is_none_ahead items ≡ false → given ≡ take (length given) (leading items) → front ≡ take most given
      → Begins front (next_bytes items looked ready) most
  begins-ahead given some is cut =
      begins-further front given (next_bytes items looked ready) most (begins front given most cut)
      (is ∙ ap (take (length given)) (sym (next-ahead items looked ready some)))

  -- and so do those that stand ready
  pub begins-ready : is_none_ahead items ≡ true → looked ≡ Nothing → front ≡ take most ready → Begins front (next_bytes items looked ready) most
  begins-ready none unlooked cut =
      begins front (next_bytes items looked ready) most (cut ∙ ap (take most) (sym (next-ready items looked ready none unlooked)))

module _ {E : Type 0} (ready : List ℕ) (u : Unread E) where
  -- what begins the bytes that come next, as far as the limit on bytes allows, stands in front
  pub is_front : (front : List ℕ) → u.input.charge ≤ u.limits.bytes
      → Begins front (next_bytes u.input.ahead u.looked ready) (u.limits.bytes - u.input.charge) → IsFront (length front) ready u
  is_front front within front_begins = record { among = front_begins.among; within = omega (arith, within, front_begins.few) }

  -- no bytes are in front at all, and nothing changes
  pub passes_none : (gives : Tape → Type 0) (count : ℕ) → count ≡ 0 → u.input.charge ≤ u.limits.bytes → PassesFront gives gives (front_bytes count ready u) u u
  passes_none gives count is within =
      subst (λ (n : ℕ). PassesFront gives gives (front_bytes n ready u) u u) (sym is) (OfTexts (record {
        behind = u.input.ahead;
        in_front = refl;
        stays = record { before = λ t may. may; after = λ t may. may };
        input = refl;
        within = omega (arith, within);
      }))

  module _ (count : ℕ) (front : IsFront count ready u) where
    -- so many are there
    length-front_bytes : length (front_bytes count ready u) ≡ count
    length-front_bytes = length-take-le count (next_bytes u.input.ahead u.looked ready) front.among

    allowed : u.input.charge + length (front_bytes count ready u) ≤ u.limits.bytes
    allowed = omega (arith, front.within, length-front_bytes)

    module _ (some : is_none_ahead u.input.ahead ≡ false) where
      -- they are ahead
      pub among-ahead : count ≤ length (leading u.input.ahead)
      among-ahead = omega (arith, front.among, ap length (next-ahead u.input.ahead u.looked ready some))

      -- what is behind them
      abbrev pub behind : List (Ahead E)
      behind = drop count u.input.ahead

      parted : u.input.ahead ≡ map ByteAhead (front_bytes count ready u) ++ behind
      parted =
          leading-parted count u.input.ahead among-ahead
          ∙ ap (λ (bytes : List ℕ). map ByteAhead (take count bytes) ++ behind) (sym (next-ahead u.input.ahead u.looked ready some))

      -- as many calls aren't over behind them
      pub returns-behind : returns_ahead behind ≡ returns_ahead u.input.ahead
      returns-behind = sym (ap returns_ahead parted ∙ returns_ahead-bytes (front_bytes count ready u) behind)

      -- no count is above its limit behind them
      pub IsWithin-texts : IsWithin u → IsWithin (record u { input = behind_bytes count behind u.input })
      IsWithin-texts within =
          subst (λ (n : ℕ). IsWithin (record u { input = behind_bytes n behind u.input })) length-front_bytes
          (IsWithin-behind (front_bytes count ready u) behind u parted allowed within)

      -- and they were taken at once
      pub passes_texts : (gives : Tape → Type 0) → PassesFront gives gives (front_bytes count ready u) u (record u { input = behind_bytes count behind u.input })
      passes_texts gives = OfTexts (record {
        behind = behind;
        in_front = parted;
        stays = record { before = λ t may. may; after = λ t may. may };
        input =
            ap (λ (i : Input E). record u { input = i })
            (sym (bytes_taken-is (front_bytes count ready u) behind u.input parted ∙ ap (λ (n : ℕ). behind_bytes n behind u.input) length-front_bytes));
        within = allowed;
      })

    module _ (some : 1 ≤ count) (none : is_none_ahead u.input.ahead ≡ true) where
      pub source : (u.input.ahead ≡ []) × ((u.looked ≡ Nothing) × (next_bytes u.input.ahead u.looked ready ≡ ready))
      source = next-source u.input.ahead u.looked ready count none some front.among

      -- they stand ready
      pub among-ready : count ≤ length ready
      among-ready = omega (arith, front.among, ap length source.1.1)

      -- and they were taken at once
      pub passes_source : (old new : Tape → Type 0) → NoNewline (front_bytes count ready u) → Took old new (map OneByte (take count ready))
          → PassesSource old new (front_bytes count ready u) u (record u { input = behind_line count u.input })
      passes_source old new plain took =
          let ours : Took old new (map OneByte (front_bytes count ready u)) =
          subst (λ (bytes : List ℕ). Took old new (map OneByte (take count bytes))) (sym source.1.1) took in
          record {
            ahead = source.0;
            looked = source.1.0;
            in_front = ours.before;
            some = (ours.some, ours.some_given);
            input = ap (λ (i : Input E). record u { input = i }) (sym (lines_taken-is (front_bytes count ready u) count u.input length-front_bytes some plain));
            within = allowed;
          }

      -- so were they where newlines may be among them: those in front of the last were counted, and then the last
      pub passes_lines : (old new : Tape → Type 0) (front passed : List ℕ) (last : ℕ) → passed ≡ take count ready → passed ≡ front ++ last ∷ []
          → Took old new (map OneByte (take count ready))
          → PassesSource old new (front_bytes count ready u) u
          (record u { input = counting last (counted (length front) (count_by (λ b. b == newline) front) u.input); looked = Nothing })
      passes_lines old new front passed last cut split took =
          let ours : Took old new (map OneByte (front_bytes count ready u)) =
          subst (λ (bytes : List ℕ). Took old new (map OneByte (take count bytes))) (sym source.1.1) took in
          let are : front_bytes count ready u ≡ front ++ last ∷ [] = ap (take count) source.1.1 ∙ sym cut ∙ split in
          record {
            ahead = source.0;
            looked = source.1.0;
            in_front = ours.before;
            some = (ours.some, ours.some_given);
            input =
                ap (λ (i : Input E). record u { input = i; looked = Nothing }) (sym (ap (λ (bytes : List ℕ). lines_taken bytes u.input) are ∙ lines_taken-last front last u.input))
                ∙ ap (λ (o : Looked). record u { input = lines_taken (front_bytes count ready u) u.input; looked = o }) (sym source.1.0);
            within = allowed;
          }
