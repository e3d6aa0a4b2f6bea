-- A page: a buffer that is written from its start, with the place that comes next.
--   written   a buffer after bytes were stored from a place on
--   Room      bytes find room on a page
--   Wrote     what a page holds after bytes were put on it
use Rattle.std.specs.Prelude.{◌≡◌, ℕ, ◌+◌, ◌≤◌, List, ◌++◌, length, take, drop}
use Rattle.report.specs.declared.page.Page.{Page}

-- The bytes stand from the place on, and all else is as it was.
abbrev pub written : List ℕ → ℕ → List ℕ → List ℕ
written b place bytes = take place b ++ bytes ++ drop (place + length bytes) b

-- The bytes end at the buffer's end or before.
abbrev pub Room : Page → List ℕ → Type 0
Room p bytes = p.at + length bytes ≤ length p.out.now

-- The bytes stand where the page was, it stands behind them, and the buffer is the same one.
pub record Wrote (before after : Page) (bytes : List ℕ) : Type 0 where
  pub stored : after.out.now ≡ written before.out.now before.at bytes
  pub moved : after.at ≡ before.at + length bytes
  pub long : length after.out.now ≡ length before.out.now
  pub same : after.out.ghost_name ≡ before.out.ghost_name
