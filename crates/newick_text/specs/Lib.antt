pub mod Automaton
