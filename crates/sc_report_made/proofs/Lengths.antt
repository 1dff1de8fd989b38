-- A made text is short: each function adds at most 150 bytes to any part of it.
use Rattle.sc_report_made.proofs.Common.{AllByRecursion, IsAsked, List, [], addend, all_functions, argument, arith}
use Rattle.sc_report_made.proofs.Common.{made_call, codes, decimal, made_export, flat_map, function_name}
use Rattle.sc_report_made.proofs.Common.{worker_functions, length}
use Rattle.sc_report_made.proofs.Common.{length-append, length-decimal-le, numbers_from, suc, workers, zero, ℕ, ◌%◌}
use Rattle.sc_report_made.proofs.Common.{◌*◌}
use Rattle.sc_report_made.proofs.Common.{◌++◌, ◌+◌, ◌/◌, ◌<◌, ◌^◌, ◌∷◌, ◌≡◌, ◌≤◌, refl}
use Rattle.sc_report.specs.Made.{made_function, made_import, made_text, made_main, made_proto, state_after}
use Rattle.sc_report.specs.Made.{worker_name, worker_text}
use Rattle.sc_report_made.proofs.Numbers.{all_below, all_rise, functions_rise, workers_rise}
use Rattle.std.proofs.Math.Nat.{mod-le}
use Rattle.sc_report_made.proofs.Shares.{few_functions, numbers_length}

-- PIECES
exact : (text : List ℕ) (count : ℕ) → length text ≡ count → length text ≤ count
exact text count is = omega (arith, is)

both : (one other : List ℕ) (m n : ℕ) → length one ≤ m → length other ≤ n → length (one ++ other) ≤ m + n
both one other m n first second = omega (arith, length-append one other, first, second)

-- pieces of at most 150 bytes, for numbers below a bound
each_short : (text : ℕ → List ℕ) (high : ℕ) → ((j : ℕ) → j < high → length (text j) ≤ 150) → (js : List ℕ) →
    AllByRecursion (λ j. j < high) js → length (flat_map text js) ≤ 150 * length js
each_short text high short [] below = omega arith
each_short text high short (j ∷ js) below =
    let here = short j below.0 in
    let rest = each_short text high short js below.1 in
    omega (arith, length-append (text j) (flat_map text js), here, rest)

-- NUMBERS AND NAMES
three : (j : ℕ) → j < 1000 → length (decimal j) ≤ 3
three j low = length-decimal-le 3 j (omega arith) (omega (arith, low)) (omega (arith, low))

upper_bits : (n : ℕ) → n % 2 ^ 32 / 65536 < 100000
upper_bits n = omega arith

five : (n : ℕ) → length (decimal (n % 2 ^ 32 / 65536)) ≤ 5
five n =
    let low = upper_bits n in
    length-decimal-le 5 (n % 2 ^ 32 / 65536) (omega arith) (omega (arith, low)) (omega (arith, low))

argument_short : (seed j : ℕ) → length (decimal (argument seed j)) ≤ 5
argument_short seed j = five (state_after seed (2 * j) * 1664525 + 1013904223)

addend_short : (seed j : ℕ) → length (decimal (addend seed j)) ≤ 5
addend_short seed j = five (state_after seed (suc (2 * j)) * 1664525 + 1013904223)

name_short : (j : ℕ) → j < 1000 → length (function_name j) ≤ 4
name_short j low = both (codes "f") (decimal j) 1 3 (exact (codes "f") 1 refl) (three j low)

worker_short : (i : ℕ) → i < 1000 → length (worker_name i) ≤ 4
worker_short i low = both (codes "W") (decimal i) 1 3 (exact (codes "W") 1 refl) (three i low)

-- TEXTS
-- a constant part, and what follows
after : (text rest : List ℕ) (m n : ℕ) → length text ≡ m → length rest ≤ n → length (text ++ rest) ≤ m + n
after text rest m n is following = both text rest m n (exact text m is) following

import_short : (size j : ℕ) → j < 1000 → length (made_import size j) ≤ 150
import_short size j low =
    let less = mod-le j (workers size) in
    let owner = worker_short (j % workers size) (omega (arith, less, low)) in
    let whole = after (codes "#pragma import ")
    (worker_name (j % workers size) ++ (codes " " ++ (function_name j ++ codes "\n"))) 15 10 refl
    (both (worker_name (j % workers size)) (codes " " ++ (function_name j ++ codes "\n")) 4 6 owner
    (after (codes " ") (function_name j ++ codes "\n") 1 5 refl
    (both (function_name j) (codes "\n") 4 1 (name_short j low) (exact (codes "\n") 1 refl)))) in
    omega (arith, whole)

proto_short : (j : ℕ) → j < 1000 → length (made_proto j) ≤ 150
proto_short j low =
    let whole = after (codes "int ") (function_name j ++ codes "(int x);\n") 4 13 refl
    (both (function_name j) (codes "(int x);\n") 4 9 (name_short j low) (exact (codes "(int x);\n") 9 refl)) in
    omega (arith, whole)

call_short : (seed j : ℕ) → j < 1000 → length (made_call seed j) ≤ 150
call_short seed j low =
    let whole = after (codes "  r = ") (function_name j ++ (codes "(" ++ (decimal (argument seed j) ++
    codes ");\n  output(r);\n"))) 6 28 refl
    (both (function_name j) (codes "(" ++ (decimal (argument seed j) ++ codes ");\n  output(r);\n")) 4 24
    (name_short j low)
    (after (codes "(") (decimal (argument seed j) ++ codes ");\n  output(r);\n") 1 23 refl
    (both (decimal (argument seed j)) (codes ");\n  output(r);\n") 5 18 (argument_short seed j)
    (let is = exact (codes ");\n  output(r);\n") 16 refl in omega (arith, is))))) in
    omega (arith, whole)

export_short : (j : ℕ) → j < 1000 → length (made_export j) ≤ 150
export_short j low =
    let whole = after (codes "#pragma export ") (function_name j ++ codes "\n") 15 5 refl
    (both (function_name j) (codes "\n") 4 1 (name_short j low) (exact (codes "\n") 1 refl)) in
    omega (arith, whole)

function_short : (seed j : ℕ) → j < 1000 → length (made_function seed j) ≤ 150
function_short seed j low =
    let body =
    codes ";\n  for (i = 0; i < 64; i++) {\n    t[i & 15] = x + i;\n    s = s + t[i & 15];\n  }\n  return s;\n}\n" in
    let whole = after (codes "int ")
    (function_name j ++ (codes "(int x) {\n  int i;\n  int s;\n  s = " ++ (decimal (addend seed j) ++ body))) 4 145 refl
    (both (function_name j) (codes "(int x) {\n  int i;\n  int s;\n  s = " ++ (decimal (addend seed j) ++ body)) 4 141
    (name_short j low)
    (after (codes "(int x) {\n  int i;\n  int s;\n  s = ") (decimal (addend seed j) ++ body) 34 107 refl
    (both (decimal (addend seed j)) body 5 102 (addend_short seed j)
    (let is = exact body 95 refl in omega (arith, is))))) in
    omega (arith, whole)

-- SECTIONS
all_short : (size : ℕ) → size ≤ 1000 → (text : ℕ → List ℕ) → ((j : ℕ) → j < 1000 → length (text j) ≤ 150) →
    length (flat_map text (all_functions size)) ≤ 150000
all_short size few text short =
    let whole = each_short text 1000 short (all_functions size)
    (all_below 0 1000 (all_functions size) (all_rise size few)) in
    omega (arith, few, numbers_length 0 size, whole)

main_short : (size seed : ℕ) → size ≤ 1000 → length (made_main size seed) ≤ 450111
main_short size seed few =
    let imports = flat_map (made_import size) (all_functions size) in
    let protos = flat_map made_proto (all_functions size) in
    let calls = flat_map (made_call seed) (all_functions size) in
    let ended = both calls (codes "  return 0;\n}\n") 150000 14 (all_short size few (made_call seed) (call_short seed))
    (exact (codes "  return 0;\n}\n") 14 refl) in
    let opened = after (codes "void output(int v);\nint main(void) {\n  int r;\n")
    (calls ++ codes "  return 0;\n}\n") 46 150014 refl ended in
    let known = both protos _ 150000 150060 (all_short size few made_proto proto_short) opened in
    let environment = after (codes "#pragma import Env output\n") _ 26 300060 refl known in
    let imported = both imports _ 150000 300086 (all_short size few (made_import size) (import_short size))
    environment in
    after (codes "#pragma compartment Main\n") _ 25 450086 refl imported

own_short : (size i : ℕ) → size ≤ 1000 → (text : ℕ → List ℕ) → ((j : ℕ) → j < 1000 → length (text j) ≤ 150) →
    length (flat_map text (worker_functions size i)) ≤ 4950
own_short size i few text short =
    let whole = each_short text 1000 short (worker_functions size i)
    (all_below 0 1000 (worker_functions size i) (functions_rise size i few)) in
    omega (arith, few_functions size i few, whole)

worker_short_text : (size seed i : ℕ) → size ≤ 1000 → i < 31 → length (worker_text size seed i) ≤ 10000
worker_short_text size seed i few low =
    let bodies : List ℕ = flat_map (made_function seed) (worker_functions size i) in
    let exported : List ℕ = flat_map made_export (worker_functions size i) in
    let declared : List ℕ = codes "int t[16];\n" ++ bodies in
    let lined : List ℕ = codes "\n" ++ (exported ++ declared) in
    let functions = own_short size i few (made_function seed) (function_short seed) in
    let table = after (codes "int t[16];\n") bodies 11 4950 refl functions in
    let exports = both exported declared 4950 4961 (own_short size i few made_export export_short) table in
    let line = after (codes "\n") (exported ++ declared) 1 9911 refl exports in
    let named = both (worker_name i) lined 4 9912 (worker_short i (omega (arith, low))) line in
    let whole = after (codes "#pragma compartment ") (worker_name i ++ lined) 20 9916 refl named in
    omega (arith, whole)

workers_short : (size seed : ℕ) → size ≤ 1000 → (is : List ℕ) → AllByRecursion (λ i. i < 31) is →
    length (flat_map (worker_text size seed) is) ≤ 10000 * length is
workers_short size seed few [] below = omega arith
workers_short size seed few (i ∷ is) below =
    let here = worker_short_text size seed i few below.0 in
    let rest = workers_short size seed few is below.1 in
    omega (arith, length-append (worker_text size seed i) (flat_map (worker_text size seed) is), here, rest)

-- the whole text
pub made_short : (size seed : ℕ) → IsAsked size seed → length (made_text size seed) ≤ 1048576
made_short size seed asked =
    let few : size ≤ 1000 = asked.few in
    let workers_in = numbers_from 0 (workers size) in
    let main = main_short size seed few in
    let others = workers_short size seed few workers_in (all_below 0 31 workers_in (workers_rise size)) in
    let count = numbers_length 0 (workers size) in
    let apart = length-append (made_main size seed) (flat_map (worker_text size seed) workers_in) in
    omega (arith, main, others, count, apart)
