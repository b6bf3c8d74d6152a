-- The limits of this project. The GNU SFrame specification has none but the 32 bits of the header's counts (sfh_num_fdes, sfh_num_fres).
use Rattle.std.specs.Prelude.{◌^◌, ℕ}

-- the most functions of one section, and of all inputs of one run, omitted ones included
abbrev pub most_functions : ℕ
most_functions = 2 ^ 21

-- the most rows of one section, and of all inputs of one run
abbrev pub most_rows : ℕ
most_rows = 2 ^ 24
