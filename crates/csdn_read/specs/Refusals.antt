-- How refusals of programs are told: a place and a word.
use Rattle.csdn_text.specs.declared.TextRefusal.{TextRefusal}
use Rattle.csdn_text.specs.declared.TextRefusal.TheVariants as text
use Rattle.csdn_types.specs.declared.refusal.SortRefusal.{SortRefusal}
use Rattle.csdn_types.specs.declared.refusal.SortRefusal.TheVariants as sorts
use Rattle.csdn_read.specs.declared.refusal.ProgramRefusal.{ProgramRefusal}
use Rattle.csdn_read.specs.declared.refusal.ProgramRefusal.TheVariants.{Memory, At}
use Rattle.csdn_read.specs.declared.refusal.ProgramWhy.TheVariants.{TooLong, BadByte, BadName, BadNumber, Unexpected, TooDeep, Duplicate, Unknown, WrongArity, WrongSort, NotAllowed, TooMany}

-- that of a text which is no tree
abbrev pub told_text : TextRefusal → ProgramRefusal
told_text text.Memory = Memory
told_text text.TooLong = At 65536 TooLong
told_text (text.BadByte at) = At at BadByte
told_text (text.BadName at) = At at BadName
told_text (text.BadNumber at) = At at BadNumber
told_text (text.Unexpected at) = At at Unexpected
told_text (text.TooDeep at) = At at TooDeep

-- that of a tree which breaks a rule on names and sorts
abbrev pub told_sorts : SortRefusal → ProgramRefusal
told_sorts sorts.Memory = Memory
told_sorts (sorts.Duplicate at) = At at Duplicate
told_sorts (sorts.Unknown at) = At at Unknown
told_sorts (sorts.WrongArity at) = At at WrongArity
told_sorts (sorts.WrongSort at) = At at WrongSort
told_sorts (sorts.NotAllowed at) = At at NotAllowed
told_sorts (sorts.TooMany at) = At at TooMany
