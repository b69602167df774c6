-- When pages stand for a layout, and what a call makes of them.
use Rattle.std.specs.Prelude.{◌≡◌, ◌^◌, min, length, map}
use Rattle.roff_pages.specs.declared.open_diversion.OpenDiversion.{OpenDiversion}
use Rattle.page_model.specs.Layout.{Layout, Diversion, page_place}
use Rattle.page_model.specs.Happenings.{Happening}
use Rattle.page_model.specs.Turning.{greatest_width, with_event}
use Rattle.roff_pages.specs.Pages.Kept.{Kept}
use Rattle.roff_pages.specs.Pages.Counted.{counted}

-- what is kept of an open diversion
abbrev pub kept_diversion : Diversion → OpenDiversion
kept_diversion d = record {
  name = d.name;
  appends = d.appends;
  height = counted (length d.boxes);
  width = counted (greatest_width d.boxes);
  trap = d.trap;
  no_space = d.no_space;
}

-- pages that keep k stand for a layout
pub record StandsAs (L : Layout) (k : Kept) : Type 0 where
  pub ranges : k.ranges ≡ L.ranges
  pub next : k.next ≡ L.next
  -- pages are counted up to more than are told apart
  pub begun : k.begun ≡ min L.begun (2 ^ 32)
  pub number : k.number ≡ L.number
  pub length : k.length ≡ L.length
  pub offset : k.offset ≡ L.offset
  pub previous_offset : k.previous_offset ≡ L.previous_offset
  pub traps : k.traps ≡ L.traps
  pub place : k.place ≡ counted (page_place L)
  pub is_listed : k.is_listed ≡ L.is_listed
  pub no_space : k.no_space ≡ L.no_space
  pub diversions : k.diversions ≡ map kept_diversion L.diversions
  pub height : k.height ≡ counted L.height
  pub width : k.width ≡ counted L.width
  pub is_closing : k.is_closing ≡ L.is_closing
  pub is_over : k.is_over ≡ L.is_over

-- the limits stay
pub record SameLimits (old new : Kept) : Type 0 where
  pub traps : new.most_traps ≡ old.most_traps
  pub diversions : new.most_diversions ≡ old.most_diversions
  pub output : new.output ≡ old.output

-- a happening that writes nothing and that no limit refuses: whatever layout the old pages stand for, the new ones stand for
-- the one behind it, within the same limits
pub record Happens (x : Happening) (old new : Kept) : Type 0 where
  pub stands : (L : Layout) → StandsAs L old → StandsAs (with_event x L) new
  pub limits : SameLimits old new
  pub written : new.written ≡ old.written
