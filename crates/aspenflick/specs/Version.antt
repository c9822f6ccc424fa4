-- The version of the library, 3.0.0, as one number.
use Rattle.std.specs.Prelude.{ℕ, ◌+◌, ◌*◌}

-- 10000·major + 100·minor + patch
abbrev pub version : ℕ
version = 10000 * 3 + 100 * 0 + 0
