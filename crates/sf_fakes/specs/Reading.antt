-- The open file and the created file of files in memory.
use Rattle.std.specs.Prelude.{ℕ, List, [], Option, Some, None, drop}
use Rattle.sf_fakes.specs.declared.reading.Reading.{Reading}
use Rattle.sf_fakes.specs.Pairs.{contents_at, name_at}

-- what is left of the open file
abbrev pub rest_at : List (List ℕ × List ℕ) → Option Reading → List ℕ
rest_at files None = []
rest_at files (Some reading) = drop reading.done (contents_at files reading.place)

-- all the bytes of the open file
abbrev pub whole_at : List (List ℕ × List ℕ) → Option Reading → List ℕ
whole_at files None = []
whole_at files (Some reading) = contents_at files reading.place

-- the name of the open file, or none
abbrev pub opened_name_of : List (List ℕ × List ℕ) → Option Reading → Option (List ℕ)
opened_name_of files None = None
opened_name_of files (Some reading) = Some (name_at files reading.place)

-- the name of the created file
abbrev pub created_file_name : List (List ℕ × List ℕ) → Option ℕ → List ℕ
created_file_name files None = []
created_file_name files (Some place) = name_at files place
