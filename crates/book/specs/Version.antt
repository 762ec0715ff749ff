-- The version of the library, which a program may hold against its header's: ten thousand times the first of its three numbers,
-- a hundred times the second, and the third. The version of the books that it reads is document 01's head word 1.
use Rattle.std.specs.Prelude.{ℕ}

abbrev pub library_version : ℕ
library_version = 10700
