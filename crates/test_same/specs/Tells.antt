-- A test tells exactly whether something is so.
use Rattle.std.specs.Prelude.{◌≡◌, Bool, true}

pub record Tells (r : Bool) (P : Type 0) : Type 0 where
  pub only : r ≡ true → P
  pub all : P → r ≡ true
