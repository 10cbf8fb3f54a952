-- docs/RULES.md 3.3: "The flags are: overflow 1, bucket 2, bitmap 4, meta 8, being populated 16, being split 32, needs
-- split cleanup 64." A page of a pending job has two of them. "None" and the page id are of 3.1 and 3.2. The code's
-- names are in src/flags.rt.
use Rattle.std.specs.Prelude.{ℕ, ◌+◌}

abbrev pub overflow_flags : ℕ
overflow_flags = 1

abbrev pub bucket_flags : ℕ
bucket_flags = 2

abbrev pub bitmap_flags : ℕ
bitmap_flags = 4

abbrev pub meta_flags : ℕ
meta_flags = 8

abbrev pub populated_flags : ℕ
populated_flags = 2 + 16

abbrev pub split_flags : ℕ
split_flags = 2 + 32

abbrev pub cleanup_flags : ℕ
cleanup_flags = 2 + 64

-- "page id 0xFF80"
abbrev pub page_id : ℕ
page_id = 0xFF80

-- "None" is 0xFFFFFFFF
abbrev pub no_link : ℕ
no_link = 4294967295
