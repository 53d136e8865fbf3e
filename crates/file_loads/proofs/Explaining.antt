-- What explains an outcome of a call, from what explains its parts.
use Rattle.std.proofs.Common.{◌≡◌, ℕ, ◌+◌, ◌≤◌, Bool, true, false, List, [], ◌∷◌, Option, Some, None, Result, Ok, Err, IfOk, sym, ◌∙◌, ap, subst, refl, arith}
use Rattle.std.specs.Prelude.{Vec}
use Rattle.std.specs.declared.alloc.Global.{Global}
use Rattle.vericon_edge.specs.Counts.{Rose}
use Rattle.vericon_edge.specs.Told.{Told, untold, absent, holds, MayBeMissing}
use Rattle.file_loads.specs.declared.read.FileKind.{FileKind}
use Rattle.file_loads.specs.Views.{View, Change, OnlyReads, Touches, calm}
use Rattle.file_loads.specs.Answers.{Answer, held, missing, longer, failed, longest, MayAnswer, File, FileMayAnswer, MayAnswerAll}
use Rattle.file_loads.specs.Writes.{Write, HasWritten, IsUnwritten, MayWrite}
use Rattle.file_loads.specs.Explained.{IsExplained}
use Rattle.file_loads.specs.Outputs.{With, was_value, was_refused, was_none, Then}
use Rattle.file_loads.specs.Loads.{AreBytes, AreNotBytes, WithBytes}
use Rattle.file_loads.specs.Gives.{IsValueOf, AreItems}

pub if_ok : {X E : Type 0} (r : Result X E) (A C : X → Type 0) → ((x : X) → A x → C x) → IfOk r A → IfOk r C
if_ok (Ok x) A C to a = to x a
if_ok (Err e) A C to a = tt

-- ---- counts

-- what rises between two counts may rise between two others
abbrev pub Eases : ℕ → ℕ → ℕ → ℕ → Type 0
Eases before after before' after' = Rose before after → Rose before' after'

missing_eased : (told : Told) (before after before' after' : ℕ) → Eases before after before' after' → MayBeMissing told before after → MayBeMissing told before' after'
missing_eased untold before after before' after' to may = to may
missing_eased absent before after before' after' to may = tt
missing_eased (holds bytes) before after before' after' to may = may

answer_eased : (told : Told) (most before after before' after' : ℕ) → Eases before after before' after' → (answer : Answer) → MayAnswer told most before after answer → MayAnswer told most before' after' answer
answer_eased told most before after before' after' to (held bytes) may = may
answer_eased told most before after before' after' to missing may = missing_eased told before after before' after' to may
answer_eased told most before after before' after' to longer may = may
answer_eased told most before after before' after' to failed may = to may

module _ (old new : Change) (same : new.before.told ≡ old.before.told) (to : Eases old.before.read_faults old.after.read_faults new.before.read_faults new.after.read_faults) where
  file_eased : (file : File) (answer : Answer) → FileMayAnswer old file answer → FileMayAnswer new file answer
  file_eased file answer may =
      subst (λ (told : List ℕ → Told). MayAnswer (told file.name) (longest file.kind) new.before.read_faults new.after.read_faults answer) (sym same)
      (answer_eased (old.before.told file.name) (longest file.kind) old.before.read_faults old.after.read_faults new.before.read_faults new.after.read_faults to answer may)

  -- more counts explain more
  pub answers_eased : (files : List File) (answers : List Answer) → MayAnswerAll old files answers → MayAnswerAll new files answers
  answers_eased files [] may = tt
  answers_eased [] (answer ∷ answers) may = absurd may
  answers_eased (file ∷ files) (answer ∷ answers) may = (file_eased file answer may.0, answers_eased files answers may.1)

rose_earlier : (before middle after : ℕ) → before ≤ middle → Rose middle after → Rose before after
rose_earlier before middle after le rose = omega (arith, le, rose)

-- ---- one file, and then others

-- what the files answered where one file was asked for, they may answer where more are
among_more : (change : Change) (file : File) (files : List File) (answers : List Answer) → MayAnswerAll change (file ∷ []) answers → MayAnswerAll change (file ∷ files) answers
among_more change file files [] may = tt
among_more change file files (answer ∷ []) may = (may.0, tt)
among_more change file files (answer ∷ second ∷ answers) may = absurd may.1

-- what is said where a file has no value is said whatever would follow from one
module _ {X : Type 0} (kind : FileKind) (name : List ℕ) (is_value : List ℕ → X → Type 0) (is_refused : List ℕ → List ℕ → Type 0) (next : X → List Answer → Option Write → List ℕ → ℕ → Type 0) where
  none_said : (answers : List Answer) (write : Option Write) (text : List ℕ) (status : ℕ) → With kind name is_value is_refused (λ x answers write text status. ⊥) answers write text status → With kind name is_value is_refused next answers write text status
  none_said answers write text status (was_value bytes x rest is value out) = absurd out
  none_said answers write text status (was_refused bytes is none refused status_is) = was_refused bytes is none refused status_is
  none_said answers write text status (was_none answer is none said) = was_none answer is none said

  -- .. and behind it no other file is read
  pub ended : (change : Change) (files : List File) (text : List ℕ) (status : ℕ) → IsExplained change (record { kind = kind; name = name } ∷ []) (With kind name is_value is_refused (λ x answers write text status. ⊥)) text status
      → IsExplained change (record { kind = kind; name = name } ∷ files) (With kind name is_value is_refused next) text status
  ended change files text status out =
      record {
        answers = out.answers;
        write = out.write;
        answered = among_more change (record { kind = kind; name = name }) files out.answers out.answered;
        counted = out.counted;
        written = out.written;
        said = none_said out.answers out.write text status out.said;
      }

module _ (before middle after : View) where
  abbrev first : Change
  first = record { before = before; after = middle }

  abbrev second : Change
  second = record { before = middle; after = after }

  abbrev whole : Change
  whole = record { before = before; after = after }

  has_behind : (name bytes : List ℕ) (is_done : Bool) → middle.told ≡ before.told → middle.write_faults ≡ before.write_faults → HasWritten (middle.told name) (after.told name) bytes middle.write_faults after.write_faults is_done
      → HasWritten (before.told name) (after.told name) bytes before.write_faults after.write_faults is_done
  has_behind name bytes is_done told faults has =
      subst (λ (count : ℕ). HasWritten (before.told name) (after.told name) bytes count after.write_faults is_done) faults
      (subst (λ (was : List ℕ → Told). HasWritten (was name) (after.told name) bytes middle.write_faults after.write_faults is_done) told has)

  written_behind : (most : ℕ) → OnlyReads most first → (write : Option Write) → MayWrite second write → MayWrite whole write
  written_behind most reads None may = record { told = may.told ∙ reads.told; calls = may.calls ∙ reads.writes; faults = may.faults ∙ reads.write_faults }
  written_behind most reads (Some write) may =
      let calls = may.calls in
      let same = reads.writes in
      record {
        written = has_behind write.name write.bytes write.is_done reads.told reads.write_faults may.written;
        others = λ name apart. may.others name apart ∙ ap (λ (told : List ℕ → Told). told name) reads.told;
        calls = omega (arith, calls, same);
      }

  -- a file is read for a value, and what follows goes on from it
  pub behind : {X : Type 0} (kind : FileKind) (name : List ℕ) (is_value : List ℕ → X → Type 0) (is_refused : List ℕ → List ℕ → Type 0) (next : X → List Answer → Option Write → List ℕ → ℕ → Type 0) (files : List File) (x : X) (text : List ℕ) (status : ℕ)
      → OnlyReads 1 first → IsValueOf first kind name is_value x → middle.read_faults ≤ after.read_faults → IsExplained second files (next x) text status
      → IsExplained whole (record { kind = kind; name = name } ∷ files) (With kind name is_value is_refused next) text status
  behind kind name is_value is_refused next files x text status reads value later out =
      let read = reads.reads in
      let counted = out.counted in
      record {
        answers = held value.bytes ∷ out.answers;
        write = out.write;
        answered = (
          value.answered,
          answers_eased second whole (sym reads.told) (rose_earlier before.read_faults middle.read_faults after.read_faults reads.read_faults) files out.answers out.answered,
        );
        counted = omega (arith, read, counted);
        written = written_behind 1 reads out.write out.written;
        said = was_value value.bytes x out.answers refl value.is out.said;
      }

  -- files that are only read, and then others
  pub reads_behind : (m n : ℕ) → OnlyReads m first → OnlyReads n second → OnlyReads (m + n) whole
  reads_behind m n one two =
      let r = one.reads in
      let s = two.reads in
      let f = one.read_faults in
      let g = two.read_faults in
      record { told = two.told ∙ one.told; reads = omega (arith, r, s); read_faults = omega (arith, f, g); writes = two.writes ∙ one.writes; write_faults = two.write_faults ∙ one.write_faults }

  -- files that are only read, and then some that are written
  pub touches_behind : (m n : ℕ) (named : Option (List ℕ)) → OnlyReads m first → Touches n named second → Touches (m + n) named whole
  touches_behind m n named one two =
      let r = one.reads in
      let s = two.reads in
      let f = one.read_faults in
      let g = two.read_faults in
      let w = one.writes in
      let v = two.writes.once in
      let p = one.write_faults in
      let q = two.writes.later in
      record {
        reads = omega (arith, r, s);
        read_faults = omega (arith, f, g);
        writes =
            record {
              others = λ name other. two.writes.others name other ∙ ap (λ (told : List ℕ → Told). told name) one.told;
              later = omega (arith, p, q);
              once = omega (arith, w, v);
            };
      }

pub unwritten : (most : ℕ) (change : Change) → OnlyReads most change → IsUnwritten change
unwritten most change reads = record { told = reads.told; calls = reads.writes; faults = reads.write_faults }

-- files that are only read are written by no name
pub only_touches : (most : ℕ) (named : Option (List ℕ)) (change : Change) → OnlyReads most change → Touches most named change
only_touches most named change reads =
    let w = reads.writes in
    let p = reads.write_faults in
    record {
      reads = reads.reads;
      read_faults = reads.read_faults;
      writes = record { others = λ name other. ap (λ (told : List ℕ → Told). told name) reads.told; later = omega (arith, p); once = omega (arith, w) };
    }

-- one file is read for a value, and no other file
pub at_last : {X : Type 0} (kind : FileKind) (name : List ℕ) (is_value : List ℕ → X → Type 0) (is_refused : List ℕ → List ℕ → Type 0) (output : X → List ℕ → ℕ → Type 0) (change : Change) (x : X) (text : List ℕ) (status : ℕ)
    → OnlyReads 1 change → IsValueOf change kind name is_value x → output x text status
    → IsExplained change (record { kind = kind; name = name } ∷ []) (With kind name is_value is_refused (λ x. Then (output x))) text status
at_last kind name is_value is_refused output change x text status reads value out =
    let read = reads.reads in
    record {
      answers = held value.bytes ∷ [];
      write = None;
      answered = (value.answered, tt);
      counted = omega (arith, read);
      written = unwritten 1 change reads;
      said = was_value value.bytes x [] refl value.is (record { no_read = refl; no_write = refl; said = out });
    }

-- .. for its bytes
pub bytes_at_last : (kind : FileKind) (name : List ℕ) (output : List ℕ → List ℕ → ℕ → Type 0) (change : Change) (found : Vec ℕ Global) (bytes text : List ℕ) (status : ℕ)
    → OnlyReads 1 change → IsValueOf change kind name AreItems found → bytes ≡ found.items → output bytes text status
    → IsExplained change (record { kind = kind; name = name } ∷ []) (WithBytes kind name (λ bytes. Then (output bytes))) text status
bytes_at_last kind name output change found bytes text status reads value is out =
    at_last kind name AreBytes AreNotBytes output change bytes text status reads (record { bytes = value.bytes; answered = value.answered; is = is ∙ value.is }) out

-- what a call says that reads none of these files, and writes nothing
pub unread_of : (files : List File) (output : List ℕ → ℕ → Type 0) (view : View) (text : List ℕ) (status : ℕ) → output text status → IsExplained (record { before = view; after = view }) files (Then output) text status
unread_of files output view text status out =
    record {
      answers = [];
      write = None;
      answered = tt;
      counted = omega arith;
      written = record { told = refl; calls = refl; faults = refl };
      said = record { no_read = refl; no_write = refl; said = out };
    }

-- .. of no files
pub unread : (output : List ℕ → ℕ → Type 0) (view : View) (text : List ℕ) (status : ℕ) → output text status → IsExplained (record { before = view; after = view }) [] (Then output) text status
unread output view text status out = unread_of [] output view text status out

-- a call that reads nothing reads no more than so many files
pub untouched_reads : (most : ℕ) (view : View) → OnlyReads most (record { before = view; after = view })
untouched_reads most view = record { told = refl; reads = omega arith; read_faults = omega arith; writes = refl; write_faults = refl }

-- nothing is read, and nothing is written
pub untouched : (named : Option (List ℕ)) (view : View) → Touches 0 named (record { before = view; after = view })
untouched named view = record { reads = omega arith; read_faults = omega arith; writes = record { others = λ name other. refl; later = omega arith; once = omega arith } }

-- what an output implies is explained as it is
pub said_so : (change : Change) (files : List File) (A B : List Answer → Option Write → List ℕ → ℕ → Type 0) (text : List ℕ) (status : ℕ) → ((answers : List Answer) (write : Option Write) → A answers write text status → B answers write text status)
    → IsExplained change files A text status → IsExplained change files B text status
said_so change files A B text status to out =
    record { answers = out.answers; write = out.write; answered = out.answered; counted = out.counted; written = out.written; said = to out.answers out.write out.said }

-- ---- calls that no fault disturbs

has_calmly : (old new : Told) (bytes : List ℕ) (before after : ℕ) → (Rose before after → ⊥) → (is_done : Bool) → HasWritten old new bytes before after is_done → HasWritten old new bytes 0 0 is_done
has_calmly old new bytes before after steady true has = (has.0, refl)
has_calmly old new bytes before after steady false has = absurd (steady has.1)

written_calmly : (change : Change) → (Rose change.before.write_faults change.after.write_faults → ⊥) → (write : Option Write) → MayWrite change write → MayWrite (calm change) write
written_calmly change steady None may = record { told = may.told; calls = may.calls; faults = refl }
written_calmly change steady (Some write) may =
    record {
      written = has_calmly (change.before.told write.name) (change.after.told write.name) write.bytes change.before.write_faults change.after.write_faults steady write.is_done may.written;
      others = may.others;
      calls = may.calls;
    }

-- what is explained where no count rose is explained with no fault counted
pub calmed : (change : Change) (files : List File) (output : List Answer → Option Write → List ℕ → ℕ → Type 0) (text : List ℕ) (status : ℕ)
    → (Rose change.before.read_faults change.after.read_faults → ⊥) → (Rose change.before.write_faults change.after.write_faults → ⊥)
    → IsExplained change files output text status → IsExplained (calm change) files output text status
calmed change files output text status no_read no_write out =
    record {
      answers = out.answers;
      write = out.write;
      answered = answers_eased change (calm change) refl (λ rose. absurd (no_read rose)) files out.answers out.answered;
      counted = out.counted;
      written = written_calmly change no_write out.write out.written;
      said = out.said;
    }

-- ---- what the first answer says

-- the first answer is allowed by what is told of the first file
pub first_answer : (change : Change) (file : File) (files : List File) (answers rest : List Answer) (answer : Answer) → answers ≡ answer ∷ rest → MayAnswerAll change (file ∷ files) answers → FileMayAnswer change file answer
first_answer change file files answers rest answer is may =
    let here : MayAnswerAll change (file ∷ files) (answer ∷ rest) = subst (λ (all : List Answer). MayAnswerAll change (file ∷ files) all) is may in here.0
