-- What was printed, one text behind another; and listeners that gave no session.
use Rattle.std.proofs.Common.{◌≡◌, ℕ, ◌+◌, ◌≤◌, List, [], ◌++◌, length, take, refl, sym, ◌∙◌, subst, arith, length-append}
use Rattle.std.specs.Prelude.{Option, false}
use Rattle.std.proofs.lemmas.List.{append-nil, take-append-le}
use Rattle.std.proofs.Math.Seq.{take-append_seam, take-append-add, take-length}
use Rattle.csdn_history.specs.declared.entry.Entry.{Entry}
use Rattle.csdn_run.specs.Histories.{Running}
use Rattle.vericon_edge.specs.Counts.{Rose}
use Rattle.vericon_edge.specs.Written.{Grown, GrownByFront}
use Rattle.vericon_edge.proofs.GrownLemmas.{grown_more}
use Rattle.link_sessions.specs.Links.{LinkView}
use Rattle.session_workers.specs.declared.row.Row.{Row}
use Rattle.session_workers.specs.declared.terms.Terms.{Terms}
use Rattle.session_workers.specs.declared.halt.Halt.{Halt}
use Rattle.session_workers.specs.declared.halt.Halt.TheVariants.{Done, Fault, Memory}
use Rattle.session_workers.specs.Endings.{HaltsFor, IsRunOf}
use Rattle.session_workers.proofs.Rows.{none_ran}
use Rattle.run_listing.specs.Lines.{run_text}
use Rattle.vericon_run.specs.Runs.{HasBegun, HasPrinted, HasRun, HasSaid, HasServed, ListenerView, Prints, all, none, front, whole, short, cut, accepted_status, is_fault, status_of}

-- a front of all is what was printed first, or that and a front of what follows
first_front : (old mid : Option (List ℕ)) (xs ys : List ℕ) → Grown old mid xs → GrownByFront old mid (xs ++ ys)
first_front old mid xs ys g =
    (length xs, (let n = length-append xs ys in omega arith), subst (λ (l : List ℕ). Grown old mid l) (sym (take-append_seam xs ys)) g)

later_front : (old mid new : Option (List ℕ)) (xs ys : List ℕ) → Grown old mid xs → GrownByFront mid new ys → GrownByFront old new (xs ++ ys)
later_front old mid new xs ys g (n, few, h) =
    (length xs + n, (let m = length-append xs ys in omega arith), subst (λ (l : List ℕ). Grown old new l) (sym (take-append-add xs ys n)) (grown_more old mid new xs (take n ys) g h))

whole_front : (old new : Option (List ℕ)) (xs : List ℕ) → Grown old new xs → GrownByFront old new xs
whole_front old new xs g = (length xs, (let n : length xs ≤ length xs = omega arith in n), subst (λ (l : List ℕ). Grown old new l) (sym (take-length xs)) g)

-- what is printed behind a first text
pub said_behind : (first rest : List ℕ) (halt : Halt) (old mid new : Option (List ℕ)) (before after status : ℕ) → Grown old mid first → Prints rest (status_of halt) mid new before after status
    → HasSaid (first ++ rest) (accepted_status (is_fault halt)) old new before after status
said_behind first rest Done old mid new before after status g (all is h same) = whole is (grown_more old mid new first rest g h) same
said_behind first rest Fault old mid new before after status g (all is h same) = whole is (grown_more old mid new first rest g h) same
said_behind first rest Memory old mid new before after status g (all is h same) = short is (whole_front old new (first ++ rest) (grown_more old mid new first rest g h)) same
said_behind first rest halt old mid new before after status g (none is h same) = short is (first_front old new first rest (subst (λ (x : Option (List ℕ)). Grown old x first) (sym h) g)) same
said_behind first rest halt old mid new before after status g (front is h rose) = cut is (later_front old mid new first rest g h) rose

-- .. and what was printed begins with the first text
begun : (first rest : List ℕ) (given : ℕ) (old mid new : Option (List ℕ)) (before after status : ℕ) → Grown old mid first → Prints rest given mid new before after status → HasBegun first old new
begun first rest given old mid new before after status g (all is h same) = record { rest = rest; written = grown_more old mid new first rest g h }
begun first rest given old mid new before after status g (none is h same) = record { rest = []; written = subst (λ (l : List ℕ). Grown old new l) (sym (append-nil first)) (subst (λ (x : Option (List ℕ)). Grown old x first) (sym h) g) }
begun first rest given old mid new before after status g (front is (n, few, h) rose) = record { rest = take n rest; written = grown_more old mid new first (take n rest) g h }

pub begun_so : (t : Terms) (first : List ℕ) (r : Running) (history : List Entry) (l l' : ListenerView) (old mid new : Option (List ℕ)) (before after status : ℕ) → Grown old mid first → HasPrinted t r history l l' mid new before after status → HasBegun first old new
begun_so t first r history l l' old mid new before after status g p = begun first (run_text p.rows history (is_fault p.halt)) (status_of p.halt) old mid new before after status g p.prints

pub done_halts : (rest : List ℕ) (halt : Halt) (old new : Option (List ℕ)) (before after status : ℕ) → Prints rest (status_of halt) old new before after status → (status ≡ 0 → halt ≡ Done) × (status ≡ 9 → halt ≡ Fault)
done_halts rest Done old new before after status (all is h same) = (λ z. refl, λ z. absurd (omega arith))
done_halts rest Fault old new before after status (all is h same) = (λ z. absurd (omega arith), λ z. refl)
done_halts rest Memory old new before after status (all is h same) = (λ z. absurd (omega arith), λ z. absurd (omega arith))
done_halts rest halt old new before after status (none is h same) = (λ z. absurd (omega arith), λ z. absurd (omega arith))
done_halts rest halt old new before after status (front is h rose) = (λ z. absurd (omega arith), λ z. absurd (omega arith))

-- a listener that gave no link
pub none_served : (t : Terms) (r : Running) (history : List Entry) (rows : List Row) (halt : Halt) (l l' : ListenerView) → history ≡ [] → rows ≡ [] → l.came ≡ 0 → l.back ≡ 0 → l'.given ≡ l.given → l'.came ≡ l.came → l'.back ≡ l.back → l.faults ≤ l'.faults
    → HaltsFor t halt l.faults l'.faults l'.came l'.ended → HasServed t r history rows halt l l'
none_served t r history rows halt l l' empty no_row came back given same_came same_back later halts = record {
  run = subst (λ (x : Option (List (ℕ × LinkView))). IsRunOf t r history rows l.given x l'.came) (sym given) (none_ran t r history rows l.given l'.came empty no_row (same_came ∙ came));
  back = same_back ∙ (back ∙ sym (same_came ∙ came));
  most = let z = same_came ∙ came in omega arith;
  halts = halts;
  later = later;
}

-- a listener that nobody used
pub unused : (t : Terms) (r : Running) (history : List Entry) (l : ListenerView) → history ≡ [] → l.came ≡ 0 → l.back ≡ 0 → HasServed t r history [] Memory l l
unused t r history l empty came back = none_served t r history [] Memory l l empty refl came back refl refl refl (let z : l.faults ≤ l.faults = omega arith in z) tt

-- ---- a run as a whole

-- .. where the first text was written, and no fault was counted before
pub printed_run : (t : Terms) (first : List ℕ) (r : Running) (history : List Entry) (l l' : ListenerView) (old mid new : Option (List ℕ)) (before now after status : ℕ) → Grown old mid first → now ≡ before
    → HasPrinted t r history l l' mid new now after status → HasRun t first r history l l' old new before after status
printed_run t first r history l l' old mid new before now after status g same printed =
    let p : HasPrinted t r history l l' mid new before after status = subst (λ (n : ℕ). HasPrinted t r history l l' mid new n after status) same printed in
    let d = done_halts (run_text p.rows history (is_fault p.halt)) p.halt mid new before after status p.prints in record {
      rows = p.rows;
      halt = p.halt;
      served = p.served;
      said = said_behind first (run_text p.rows history (is_fault p.halt)) p.halt old mid new before after status g p.prints;
      done = d.0;
      faulted = d.1;
    }

-- .. where it was cut off
pub cut_off : (t : Terms) (first : List ℕ) (r : Running) (history : List Entry) (l : ListenerView) (old new : Option (List ℕ)) (before after : ℕ) → history ≡ [] → l.came ≡ 0 → l.back ≡ 0 → GrownByFront old new first
    → Rose before after → HasRun t first r history l l old new before after 8
cut_off t first r history l old new before after empty came back (n, few, g) rose =
    let rest = run_text [] history false in record {
      rows = [];
      halt = Memory;
      served = unused t r history l empty came back;
      said = cut refl (n, (let m = length-append first rest in omega arith), subst (λ (x : List ℕ). Grown old new x) (sym (take-append-le n first rest few)) g) rose;
      done = λ z. absurd (omega arith);
      faulted = λ z. absurd (omega arith);
    }
