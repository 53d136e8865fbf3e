-- The made program of n relations on hosts: the hosts of each but the first are in the one before it, and the sender of each packet is put into all.
use Rattle.std.specs.Prelude.{ℕ, ◌+◌, ◌-◌, List, ◌++◌, codes, flat_map}
use Rattle.std.specs.Fmt.{decimal}
use Rattle.std.specs.List.{range_with_len}

-- one text, and another behind it
infixr 60 ◌·◌
abbrev pub ◌·◌ : List ℕ → List ℕ → List ℕ
xs · ys = xs ++ ys

-- the name of the relation of a number
abbrev pub relation : ℕ → List ℕ
relation k = codes "r" · decimal k

abbrev pub declaration : ℕ → List ℕ
declaration k = codes "rel " · relation k · codes "(HO);\n"

abbrev pub invariant : ℕ → List ℕ
invariant k = codes "safety s" · decimal k · codes ": forall X:HO. " · relation k · codes "(X) -> " · relation (k - 1) · codes "(X);\n"

abbrev pub insertion : ℕ → List ℕ
insertion k = codes "  " · relation k · codes ".insert(src);\n"

-- the lines of the numbers from the first to the last, in this order
unfoldable pub for_each : (first last : ℕ) → (ℕ → List ℕ) → List ℕ
for_each first last line = flat_map line (range_with_len first (last + 1 - first))

unfoldable pub made_text : ℕ → List ℕ
made_text n = for_each 1 n declaration · for_each 2 n invariant · codes "pktIn(s, src->dst, i) {\n" · for_each 1 n insertion · codes "}\n"
