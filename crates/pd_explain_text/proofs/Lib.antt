mod ScriptLines
mod Written
