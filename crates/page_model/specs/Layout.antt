-- The layout: pages, their traps, and open diversions (manual, sections 3 and 7.4).
--
-- Vertical lengths and places are in lines, and horizontal ones in columns. A page, and a diversion, is a list of boxes, the
-- newest first; its place is their number.
use Rattle.std.specs.Prelude.{ℕ, Bool, false, pos, List, [], length, Option, None}
use Rattle.roff_num.specs.declared.num.Num.{Num}
use Rattle.roff_num.specs.declared.short_name.ShortName.{ShortName}
use Rattle.page_model.specs.declared.trap.Trap.{Trap}

-- what takes up a line: a text as it is printed, or nothing
pub data Box : Type 0 where
  Lined : List ℕ → Box
  Empty : Box

-- a diversion that is open
pub record Diversion : Type 0 where
  pub name : ShortName
  pub appends : Bool
  pub boxes : List Box
  pub trap : Option Trap
  pub no_space : Bool

-- The ranges of pages that are written, where there are any; the number that the next page gets, if one was set; how many pages
-- were begun; of the page the number, the length, the offset and the one before it, the traps in turn, the boxes, whether it
-- is written, and no-space mode. Then the open diversions, the innermost first, the height and width of the one that ended
-- last; and whether the closing phase has begun, and the layout is over.
pub record Layout : Type 0 where
  pub ranges : List (Num × Num)
  pub next : Option Num
  pub begun : ℕ
  pub number : Num
  pub length : ℕ
  pub offset : ℕ
  pub previous_offset : ℕ
  pub traps : List Trap
  pub boxes : List Box
  pub is_listed : Bool
  pub no_space : Bool
  pub diversions : List Diversion
  pub height : ℕ
  pub width : ℕ
  pub is_closing : Bool
  pub is_over : Bool

-- at first: no page, and a page length of 66 lines
abbrev pub first_layout : Layout
first_layout = record {
  ranges = [];
  next = None;
  begun = 0;
  number = record { 0 = pos 0 };
  length = 66;
  offset = 0;
  previous_offset = 0;
  traps = [];
  boxes = [];
  is_listed = false;
  no_space = false;
  diversions = [];
  height = 0;
  width = 0;
  is_closing = false;
  is_over = false;
}

-- how many lines stand on the page
abbrev pub page_place : Layout → ℕ
page_place L = length L.boxes

-- a diversion as it is opened
abbrev pub opened : ShortName → Bool → Diversion
opened name appends = record { name = name; appends = appends; boxes = []; trap = None; no_space = false }
